-- Where a value that is no array and no object breaks, and where a key does, by cases on the grammar (RFC 8259, sections
-- 3, 4 and 6): what stands before the fault is spelled, and the fault stands in the next part.
use Rattle.std.specs.Prelude.{◌≡◌, ◌⊎◌, ℕ, ◌+◌, ◌-◌, ◌*◌, Bool, true, false, ◌==◌, ◌||◌, ◌&&◌, List, []}
use Rattle.std.specs.Prelude.{◌∷◌, ◌++◌, codes, None}
use Rattle.std.specs.List.{list_all}
use Rattle.jb_read.specs.declared.fault.Broken.{Broken}
use Rattle.jb_read.specs.declared.fault.FaultKind.TheVariants.{Syntax, Float, NumberRange}
use Rattle.jb_read.specs.Bytes.{begins, is_digit, skip_white}
use Rattle.jb_read.specs.Numbers.{is_minus, is_mark, number_of}
use Rattle.jb_read.specs.Reading.{broken}
use Rattle.jb_read.specs.Values.{begins_with}
use Rattle.jb_read.specs.Spelling.{SpellsString}
use Rattle.jb_read.specs.StringFaults.{StringBreaks}

-- The front of a word stands there, but not the byte that the word has next: Syntax behind that front, which is the
-- text's end where nothing follows.
pub record WordBreaks (e : Broken) (word at : List ℕ) : Type 0 where
  pub front : List ℕ
  pub wanted : ℕ
  pub others : List ℕ
  pub behind : List ℕ
  pub word_is : word ≡ front ++ wanted ∷ others
  pub spelled : at ≡ front ++ behind
  pub differs : begins_with wanted behind ≡ false
  pub fault_is : e ≡ broken Syntax behind

-- the number that digits spell behind those of n
abbrev pub digits_value : ℕ → List ℕ → ℕ
digits_value n [] = n
digits_value n (b ∷ bs) = digits_value (10 * n + (b - 48)) bs

-- a zero alone, or digits that don't begin with zero
abbrev pub IsWholePart : List ℕ → Type 0
IsWholePart digits = (digits ≡ 48 ∷ []) ⊎ ((begins is_digit digits ≡ true) × (begins_with 48 digits ≡ false))

-- the digits of a number, all that stand there
pub record SpellsWhole (n : ℕ) (at rest : List ℕ) : Type 0 where
  pub digits : List ℕ
  pub spelled : at ≡ digits ++ rest
  pub are_digits : list_all is_digit digits ≡ true
  pub whole : IsWholePart digits
  pub all : begins is_digit rest ≡ false
  pub number_is : n ≡ digits_value 0 digits

-- the sign of a number: a minus, or nothing
abbrev pub SpellsSign : Bool → List ℕ → List ℕ → Type 0
SpellsSign true at inside = at ≡ 45 ∷ inside
SpellsSign false at inside = (at ≡ inside) × (begins is_minus at ≡ false)

-- Where a number breaks: without any digit at what stands there, with a leading zero at the digit behind it, and with a
-- fraction, an exponent, as minus zero or out of range at its own first byte.
pub data NumberBreaks (e : Broken) (at : List ℕ) : Type 0 where
  no_digit : (minus : Bool) (inside : List ℕ) → SpellsSign minus at inside → begins is_digit inside ≡ false → e ≡ broken Syntax inside
      → NumberBreaks e at
  leading_zero : (minus : Bool) (inside others : List ℕ) → SpellsSign minus at inside → inside ≡ 48 ∷ others → begins is_digit others ≡ true
      → e ≡ broken Syntax others → NumberBreaks e at
  no_whole : (minus : Bool) (inside : List ℕ) (n : ℕ) (rest : List ℕ) → SpellsSign minus at inside → SpellsWhole n inside rest
      → (begins is_mark rest || (minus && (n == 0))) ≡ true → e ≡ broken Float at → NumberBreaks e at
  out_of_range : (minus : Bool) (inside : List ℕ) (n : ℕ) (rest : List ℕ) → SpellsSign minus at inside → SpellsWhole n inside rest
      → (begins is_mark rest || (minus && (n == 0))) ≡ false → number_of minus n ≡ None → e ≡ broken NumberRange at → NumberBreaks e at

-- a minus or a digit, which begins a number
abbrev pub begins_number : List ℕ → Bool
begins_number at = begins (λ b. is_minus b || is_digit b) at

-- what begins a string, a word or a number
abbrev pub begins_scalar : List ℕ → Bool
begins_scalar at = begins (λ b. (b == 34) || ((b == 110) || ((b == 116) || ((b == 102) || (is_minus b || is_digit b))))) at

-- where a value breaks that is no array and no object
pub data ScalarBreaks (e : Broken) (at : List ℕ) : Type 0 where
  no_value : begins_scalar at ≡ false → e ≡ broken Syntax at → ScalarBreaks e at
  in_string : (inside : List ℕ) → at ≡ 34 ∷ inside → StringBreaks e inside → ScalarBreaks e at
  in_null : (inside : List ℕ) → at ≡ 110 ∷ inside → WordBreaks e (codes "ull") inside → ScalarBreaks e at
  in_true : (inside : List ℕ) → at ≡ 116 ∷ inside → WordBreaks e (codes "rue") inside → ScalarBreaks e at
  in_false : (inside : List ℕ) → at ≡ 102 ∷ inside → WordBreaks e (codes "alse") inside → ScalarBreaks e at
  in_number : begins_number at ≡ true → NumberBreaks e at → ScalarBreaks e at

-- where a key breaks, or what stands behind it in place of its colon
pub data KeyBreaks (e : Broken) (at : List ℕ) : Type 0 where
  no_quote : begins_with 34 at ≡ false → e ≡ broken Syntax at → KeyBreaks e at
  in_key_string : (inside : List ℕ) → at ≡ 34 ∷ inside → StringBreaks e inside → KeyBreaks e at
  no_colon : (key behind : List ℕ) → SpellsString key at behind → begins_with 58 (skip_white behind) ≡ false
      → e ≡ broken Syntax (skip_white behind) → KeyBreaks e at

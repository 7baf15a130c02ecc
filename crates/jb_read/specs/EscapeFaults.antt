-- Where an escape of a string breaks, by cases on the grammar (RFC 8259, section 7).
use Rattle.std.specs.Prelude.{◌≡◌, ◌≢◌, ℕ, ◌<◌, Bool, true, false, ◌==◌, List, [], ◌∷◌, ◌++◌, length, None, is_some}
use Rattle.std.specs.List.{list_all}
use Rattle.jb_read.specs.declared.fault.Broken.{Broken}
use Rattle.jb_read.specs.declared.fault.FaultKind.TheVariants.{Syntax}
use Rattle.jb_read.specs.Bytes.{begins}
use Rattle.jb_read.specs.Reading.{broken}
use Rattle.jb_read.specs.Strings.{hex_value, is_high, is_low, short_escape}
use Rattle.jb_read.specs.Values.{begins_with}
use Rattle.jb_read.specs.Spelling.{SpellsUnit}

-- a hexadecimal digit
abbrev pub is_hex : ℕ → Bool
is_hex b = is_some (hex_value b)

-- of so many hexadecimal digits stand only the first: Syntax behind these
pub record HexBreaks (wanted : ℕ) (e : Broken) (at : List ℕ) : Type 0 where
  pub front : List ℕ
  pub behind : List ℕ
  pub spelled : at ≡ front ++ behind
  pub digits : list_all is_hex front ≡ true
  pub few : length front < wanted
  pub no_digit : begins is_hex behind ≡ false
  pub fault_is : e ≡ broken Syntax behind

-- no escape of a low surrogate stands there, which shows at this place
pub data NoLow (place : List ℕ) (at : List ℕ) : Type 0 where
  no_backslash : begins_with 92 at ≡ false → place ≡ at → NoLow place at
  no_letter : (inside : List ℕ) → at ≡ 92 ∷ inside → begins_with 117 inside ≡ false → place ≡ inside → NoLow place at
  no_unit : (inside : List ℕ) → at ≡ 92 ∷ 117 ∷ inside → HexBreaks 4 (broken Syntax place) inside → NoLow place at
  not_low : (unit : ℕ) (rest : List ℕ) → SpellsUnit unit at rest → is_low unit ≡ false → place ≡ at → NoLow place at

-- Where an escape breaks whose own fault is Syntax at its backslash.
pub data EscapeBreaks (e : Broken) (at : List ℕ) : Type 0 where
  -- the text ends, or another letter than an escape has
  ended : at ≡ 92 ∷ [] → e ≡ broken Syntax [] → EscapeBreaks e at
  wrong_letter : (letter : ℕ) (rest : List ℕ) → at ≡ 92 ∷ letter ∷ rest → (letter == 117) ≡ false → short_escape letter ≡ None
      → e ≡ broken Syntax (letter ∷ rest) → EscapeBreaks e at
  in_unit : (inside : List ℕ) → at ≡ 92 ∷ 117 ∷ inside → HexBreaks 4 e inside → EscapeBreaks e at
  -- a low surrogate, or a high one with no low one behind it: at the escape itself, but where the text ends before that
  -- could be told, at the end
  lone_low : (unit : ℕ) (rest : List ℕ) → SpellsUnit unit at rest → is_high unit ≡ false → is_low unit ≡ true → e ≡ broken Syntax at
      → EscapeBreaks e at
  lone_high : (high : ℕ) (between place : List ℕ) → SpellsUnit high at between → is_high high ≡ true → NoLow place between → place ≢ []
      → e ≡ broken Syntax at → EscapeBreaks e at
  cut_pair : (high : ℕ) (between : List ℕ) → SpellsUnit high at between → is_high high ≡ true → NoLow [] between → e ≡ broken Syntax []
      → EscapeBreaks e at

-- Where a string breaks, by cases on the grammar (RFC 8259, section 7), behind the quote that opens it: the characters
-- before the fault are spelled, and the fault stands in the next one.
use Rattle.std.specs.Prelude.{◌≡◌, ℕ, ◌<◌, true, false, ◌&&◌, ◌==◌, nat_lt, List, [], ◌∷◌, length, Bool, is_none}
use Rattle.std.specs.Str.Lossy.{utf8_valid_len, utf8_error_len}
use Rattle.jb_read.specs.declared.fault.Broken.{Broken}
use Rattle.jb_read.specs.declared.fault.FaultKind.TheVariants.{Syntax}
use Rattle.jb_read.specs.Reading.{broken}
use Rattle.jb_read.specs.Strings.{plain_front, behind_plain}
use Rattle.jb_read.specs.Spelling.{SpellsCharacter}
use Rattle.jb_read.specs.EscapeFaults.{EscapeBreaks}

-- characters of a string, up to where another has to start
abbrev pub CharactersBefore : List ℕ → List ℕ → List ℕ → Type 0
CharactersBefore [] at start = at ≡ start
CharactersBefore (c ∷ cs) at start = (behind : List ℕ) × SpellsCharacter c at behind × CharactersBefore cs behind start

-- plain bytes stand there that begin with no UTF-8 character
pub record BeginsNoCharacter (at : List ℕ) : Type 0 where
  pub some : 0 < length (plain_front at)
  pub none : utf8_valid_len (plain_front at) ≡ 0

-- they reach to the text's end, and more bytes could make a character of them
abbrev pub is_cut : List ℕ → Bool
is_cut at = (length (behind_plain at) == 0) && is_none (utf8_error_len (plain_front at))

-- where the next character of a string breaks: at the text's end, at a control, inside an escape, at an ill-formed sequence
-- of bytes, or at the text's end where that cuts a character
pub data CharacterBreaks (e : Broken) (at : List ℕ) : Type 0 where
  at_end : at ≡ [] → e ≡ broken Syntax [] → CharacterBreaks e at
  control : (byte : ℕ) (rest : List ℕ) → at ≡ byte ∷ rest → nat_lt byte 32 ≡ true → e ≡ broken Syntax at → CharacterBreaks e at
  in_escape : (inside : List ℕ) → at ≡ 92 ∷ inside → EscapeBreaks e at → CharacterBreaks e at
  ill_formed : BeginsNoCharacter at → is_cut at ≡ false → e ≡ broken Syntax at → CharacterBreaks e at
  cut_off : BeginsNoCharacter at → is_cut at ≡ true → e ≡ broken Syntax [] → CharacterBreaks e at

-- where a string breaks
pub record StringBreaks (e : Broken) (inside : List ℕ) : Type 0 where
  pub characters : List ℕ
  pub start : List ℕ
  pub before : CharactersBefore characters inside start
  pub breaks : CharacterBreaks e start

-- Which token stands at the front of a text, and which fault stands there in place of one. A text is what is left from
-- a place on; a token is known by its kind and its length, and a fault lies between two places.
use Rattle.std.specs.Prelude.{◌≡◌, ◌⊎◌, ℕ, ◌+◌, ◌<◌, ◌≤◌, Bool, true, false, not, ◌==◌, ◌&&◌, length, drop}
use Rattle.std.specs.Prelude.{slice_index}
use Rattle.std.specs.List.{prefix_len}
use Rattle.gql_lexer.specs.Class.{Text, is_name_continue, is_line, is_source, is_continuation, class_of}
use Rattle.gql_lexer.specs.Lex.{run_len, blank_len, string_len, block_len, is_mark, is_block_quote, sign_end, whole_end, fraction_end}
use Rattle.gql_lexer.specs.Lex.{exponent_start, exponent_end, goes_on}
use Rattle.gql_lexer.specs.declared.class.ByteClass.{ByteClass}
use Rattle.gql_lexer.specs.declared.class.ByteClass.TheVariants as class
use Rattle.gql_lexer.specs.declared.error.SyntaxFault.{SyntaxFault}
use Rattle.gql_lexer.specs.declared.error.SyntaxFault.TheVariants.{EndOfText, BadCharacter, OpenString, BadEscape, BadNumber, BadToken}
use Rattle.gql_lexer.specs.declared.token.TokenKind.{TokenKind}
use Rattle.gql_lexer.specs.declared.token.TokenKind.TheVariants.{Punctuator, Name, IntValue, FloatValue, StringValue, Ignored}

-- the text begins with a byte of the class
abbrev pub Begins : ByteClass → Text → Type 0
Begins class at = class_of (slice_index at 0) ≡ class

-- ---- punctuators

-- the three dots of a spread
abbrev pub is_spread : Text → Bool
is_spread at = slice_index at 1 == 0x2E && slice_index at 2 == 0x2E

-- ---- numbers

-- the ends of the IntegerPart, with its FractionalPart, and with its ExponentPart, where these stand
abbrev pub fraction_of : Text → ℕ
fraction_of at = fraction_end at (whole_end at)

abbrev pub number_end : Text → ℕ
number_end at = exponent_end at (fraction_of at)

-- a part has no digits
abbrev pub lacks_whole : Text → Bool
lacks_whole at = whole_end at == sign_end at

abbrev pub lacks_fraction : Text → Bool
lacks_fraction at = fraction_of at == whole_end at + 1

abbrev pub lacks_exponent : Text → Bool
lacks_exponent at = not (number_end at == fraction_of at) && number_end at == exponent_start at (fraction_of at)

-- each part has digits, and nothing follows that would go on with the number
pub record IsNumber (at : Text) (end : ℕ) : Type 0 where
  pub begins : Begins class.Number at
  pub whole : lacks_whole at ≡ false
  pub fraction : lacks_fraction at ≡ false
  pub exponent : lacks_exponent at ≡ false
  pub ends : end ≡ number_end at
  pub alone : goes_on (slice_index at end) ≡ false

-- the first place at which the number breaks that
abbrev pub BreaksAt : Text → ℕ → Type 0
BreaksAt at end =
    ((lacks_whole at ≡ true) × (end ≡ whole_end at))
    ⊎ ((lacks_whole at ≡ false) × (lacks_fraction at ≡ true) × (end ≡ fraction_of at))
    ⊎ ((lacks_whole at ≡ false) × (lacks_fraction at ≡ false) × (lacks_exponent at ≡ true) × (end ≡ number_end at))
    ⊎ ((lacks_whole at ≡ false) × (lacks_fraction at ≡ false) × (lacks_exponent at ≡ false)
    × (goes_on (slice_index at (number_end at)) ≡ true) × (end ≡ number_end at))

-- ---- strings

-- the end of the characters and escapes behind the opening quote
abbrev pub string_end : Text → ℕ
string_end at = 1 + run_len string_len (drop 1 at)

abbrev pub block_end : Text → ℕ
block_end at = 3 + run_len block_len (drop 3 at)

-- a quote that opens a string on one line, and three that open a block string
abbrev pub OpensString : Text → Type 0
OpensString at = Begins class.Quote at × (is_block_quote at 0 ≡ false)

abbrev pub OpensBlock : Text → Type 0
OpensBlock at = Begins class.Quote at × (is_block_quote at 0 ≡ true)

-- the place is the end of the text, or of a line
abbrev pub EndsLine : Text → ℕ → Type 0
EndsLine at place = (length at ≤ place) ⊎ ((slice_index at place ≡ 0x0A) ⊎ (slice_index at place ≡ 0x0D))

-- a control stands at the place, but no tab, LF or CR
abbrev pub IsControl : Text → ℕ → Type 0
IsControl at place = (place < length at) × (is_source (slice_index at place) ≡ false)

-- ---- ignored tokens

abbrev pub BeginsBlank : Text → Type 0
BeginsBlank at = Begins class.Blank at ⊎ (Begins class.Mark at × (is_mark at ≡ true))

abbrev pub comment_end : Text → ℕ
comment_end at = 1 + prefix_len is_line (drop 1 at)

-- ---- tokens

-- the first n bytes are a token of the kind
abbrev pub IsToken : TokenKind → Text → ℕ → Type 0
IsToken Punctuator at n =
    (Begins class.Punctuator at × (n ≡ 1)) ⊎ (Begins class.Dot at × (is_spread at ≡ true) × (n ≡ 3))
IsToken Name at n = Begins class.Name at × (n ≡ prefix_len is_name_continue at)
IsToken IntValue at n = IsNumber at n × (n ≡ whole_end at)
IsToken FloatValue at n = IsNumber at n × ((n == whole_end at) ≡ false)
IsToken StringValue at n =
    (OpensString at × (slice_index at (string_end at) ≡ 0x22) × (n ≡ string_end at + 1))
    ⊎ (OpensBlock at × (is_block_quote at (block_end at) ≡ true) × (n ≡ block_end at + 3))
IsToken Ignored at n =
    (BeginsBlank at × (n ≡ run_len blank_len at))
    ⊎ (Begins class.Comma at × (n ≡ 1))
    ⊎ (Begins class.Comment at × (IsControl at n → ⊥) × (n ≡ comment_end at))

-- ---- faults

-- a character that no token begins with
abbrev pub BeginsNone : Text → Type 0
BeginsNone at =
    Begins class.Other at
    ⊎ (Begins class.Mark at × (is_mark at ≡ false))
    ⊎ (Begins class.Dot at × (is_spread at ≡ false))

-- a comment, string or block string goes up to the place
abbrev pub Reaches : Text → ℕ → Type 0
Reaches at place =
    (Begins class.Comment at × (place ≡ comment_end at))
    ⊎ (OpensString at × (place ≡ string_end at))
    ⊎ (OpensBlock at × (place ≡ block_end at))

-- the fault stands between the two places, and none before it
abbrev pub IsFault : SyntaxFault → Text → ℕ → ℕ → Type 0
IsFault BadCharacter at start end =
    (BeginsNone at × (start ≡ 0) × (end ≡ 1 + prefix_len is_continuation (drop 1 at)))
    ⊎ (Reaches at start × IsControl at start × (end ≡ start + 1))
IsFault OpenString at start end =
    (OpensString at × EndsLine at (string_end at) × (start ≡ 0) × (end ≡ string_end at))
    ⊎ (OpensBlock at × (length at ≤ block_end at) × (start ≡ 0) × (end ≡ block_end at))
IsFault BadEscape at start end =
    OpensString at × (start ≡ string_end at) × (slice_index at start ≡ 0x5C) × (end ≡ start + 1)
IsFault BadNumber at start end = Begins class.Number at × (start ≡ 0) × BreaksAt at end
IsFault EndOfText at start end = ⊥
IsFault BadToken at start end = ⊥

-- Exactly one thing stands at the front of the text: a token, or a fault.
pub record StandsOne (at : Text) : Type 0 where
  pub some : ((kind : TokenKind) × (n : ℕ) × IsToken kind at n) ⊎ ((fault : SyntaxFault) × (start : ℕ) × (end : ℕ) × IsFault fault at start end)
  pub one_token : (kind other : TokenKind) (n m : ℕ) → IsToken kind at n → IsToken other at m → (kind ≡ other) × (n ≡ m)
  pub one_fault : (fault other : SyntaxFault) (start end from to : ℕ) → IsFault fault at start end → IsFault other at from to
      → (fault ≡ other) × (start ≡ from) × (end ≡ to)
  pub not_both : (kind : TokenKind) (fault : SyntaxFault) (n start end : ℕ) → IsToken kind at n → IsFault fault at start end → ⊥

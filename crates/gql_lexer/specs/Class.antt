-- The classes of bytes that the lexical grammar tells apart. A text is its bytes in UTF-8, and reads as 0 past its end.
use Rattle.std.specs.Prelude.{ℕ, Bool, not, ◌&&◌, ◌||◌, ◌==◌, nat_le, if◌then◌else◌, List}
use Rattle.gql_lexer.specs.declared.class.ByteClass.{ByteClass}
use Rattle.gql_lexer.specs.declared.class.ByteClass.TheVariants as class

abbrev pub Text : Type 0
Text = List ℕ

abbrev pub is_between : ℕ → ℕ → ℕ → Bool
is_between low high b = nat_le low b && nat_le b high

-- NameStart: a letter, or `_`
abbrev pub is_name_start : ℕ → Bool
is_name_start b = b == 0x5F || is_between 0x41 0x5A b || is_between 0x61 0x7A b

abbrev pub is_digit : ℕ → Bool
is_digit b = is_between 0x30 0x39 b

-- NameContinue: a letter, a digit, or `_`
abbrev pub is_name_continue : ℕ → Bool
is_name_continue b = is_name_start b || is_digit b

-- the punctuators of one character: `! $ & ( ) : = @ [ ] { | }`
abbrev pub is_punctuator : ℕ → Bool
is_punctuator b =
    b == 0x21 || b == 0x24 || b == 0x26 || b == 0x28 || b == 0x29 || b == 0x3A || b == 0x3D || b == 0x40 || b == 0x5B || b == 0x5D || is_between 0x7B 0x7D b

-- the characters of white space and of line ends: tab, LF, CR and the space
abbrev pub is_blank : ℕ → Bool
is_blank b = b == 0x09 || b == 0x0A || b == 0x0D || b == 0x20

-- a byte of a source character: any but the controls below U+0020 other than tab, LF and CR
abbrev pub is_source : ℕ → Bool
is_source b = nat_le 0x20 b || b == 0x09 || b == 0x0A || b == 0x0D

-- a byte of a source character that ends no line
abbrev pub is_line : ℕ → Bool
is_line b = nat_le 0x20 b || b == 0x09

-- a byte that stands for itself in a string
abbrev pub is_plain : ℕ → Bool
is_plain b = is_line b && not (b == 0x22) && not (b == 0x5C)

-- a byte that stands for itself in a block string, whatever follows
abbrev pub is_block_plain : ℕ → Bool
is_block_plain b = is_source b && not (b == 0x22) && not (b == 0x5C)

-- a byte that goes on with a character
abbrev pub is_continuation : ℕ → Bool
is_continuation b = is_between 0x80 0xBF b

-- white space within a line: a space or a tab
abbrev pub is_space : ℕ → Bool
is_space b = b == 0x20 || b == 0x09

-- a byte that ends no line: neither LF nor CR
abbrev pub is_within_line : ℕ → Bool
is_within_line b = not (b == 0x0A) && not (b == 0x0D)

-- what a token that begins with the byte can be
abbrev pub class_of : ℕ → ByteClass
class_of b =
    if is_name_start b then class.Name
    else if is_digit b || b == 0x2D then class.Number
    else if is_blank b then class.Blank
    else if is_punctuator b then class.Punctuator
    else if b == 0x2E then class.Dot
    else if b == 0x22 then class.Quote
    else if b == 0x23 then class.Comment
    else if b == 0x2C then class.Comma
    else if b == 0xEF then class.Mark
    else class.Other

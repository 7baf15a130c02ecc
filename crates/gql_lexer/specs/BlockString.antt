-- The value of a block string: BlockStringValue(rawValue) of section 2.9.4 of GraphQL October 2021.
use Rattle.std.specs.Prelude.{ℕ, min, ◌-◌, Bool, ◌&&◌, ◌==◌, nat_le, if◌then◌else◌, List, [], ◌∷◌, map, length, drop}
use Rattle.std.specs.Prelude.{slice_index, slice_range, Option, Some, None, unwrap_or}
use Rattle.std.specs.List.{prefix_len, list_all, join_with_byte}
use Rattle.gql_lexer.specs.Class.{Text, is_space, is_within_line}
use Rattle.gql_lexer.specs.Lex.{is_block_quote}

-- three quotes stand at either end, apart from each other
abbrev pub is_block_string : Text → Bool
is_block_string token = nat_le 6 (length token) && is_block_quote token 0 && is_block_quote token (length token - 3)

-- ---- the raw value

-- `\"""` begins there
abbrev pub is_escaped_quotes : Text → Bool
is_escaped_quotes at = slice_index at 0 == 0x5C && is_block_quote at 1

-- the text with `"""` in place of each `\"""`: the backslash goes
abbrev pub raw_value : Text → Text
raw_value [] = []
raw_value (b ∷ at) = if is_escaped_quotes (b ∷ at) then raw_value at else b ∷ raw_value at

-- ---- lines

abbrev pub is_cr_lf : Text → Bool
is_cr_lf at = slice_index at 0 == 0x0D && slice_index at 1 == 0x0A

-- the lines, with one byte more in front of the first
abbrev pub before_first : ℕ → List Text → List Text
before_first b [] = (b ∷ []) ∷ []
before_first b (line ∷ others) = (b ∷ line) ∷ others

-- LF, CR LF and CR end a line. Of CR LF the LF ends it, and the CR goes
abbrev pub lines : Text → List Text
lines [] = [] ∷ []
lines (b ∷ at) =
    if is_cr_lf (b ∷ at) then lines at else if is_within_line b then before_first b (lines at) else [] ∷ lines at

-- ---- indents

-- how many characters of white space a line begins with. Each is one byte
abbrev pub white_len : Text → ℕ
white_len line = prefix_len is_space line

-- a line of white space alone
abbrev pub is_white_line : Text → Bool
is_white_line line = white_len line == length line

-- the white space that a line begins with, if it holds anything else
abbrev pub indent : Text → Option ℕ
indent line = if is_white_line line then None else Some (white_len line)

-- the lesser of the two that there are
abbrev pub least : Option ℕ → Option ℕ → Option ℕ
least None b = b
least (Some a) None = Some a
least (Some a) (Some b) = Some (min a b)

abbrev pub common_indent : List Text → Option ℕ
common_indent [] = None
common_indent (line ∷ others) = least (indent line) (common_indent others)

-- each line but the first without its first n bytes, where n is the common indent of those lines, if they have one
abbrev pub unindented : List Text → List Text
unindented [] = []
unindented (first ∷ others) = first ∷ map (λ line. drop (unwrap_or (common_indent others) 0) line) others

-- ---- the value

-- the lines from the first on that is not white space alone
abbrev pub without_white_start : List Text → List Text
without_white_start [] = []
without_white_start (line ∷ others) = if is_white_line line then without_white_start others else line ∷ others

-- the lines up to the last that is not white space alone
abbrev pub without_white_end : List Text → List Text
without_white_end [] = []
without_white_end (line ∷ others) = if list_all is_white_line (line ∷ others) then [] else line ∷ without_white_end others

abbrev pub joined : List Text → Text
joined ls = join_with_byte 0x0A (without_white_end (without_white_start ls))

-- the value of a token, whose quotes are three bytes at either end
abbrev pub block_string_value : Text → Text
block_string_value token = joined (unindented (lines (raw_value (slice_range token 3 (length token - 3)))))

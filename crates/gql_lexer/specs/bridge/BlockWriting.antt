-- What is left to write of a block string's value.
use Rattle.std.specs.Prelude.{◌≡◌, ℕ, min, ◌==◌, if◌then◌else◌, List, [], ◌∷◌, ◌++◌, drop}
use Rattle.gql_lexer.specs.Class.{Text}
use Rattle.gql_lexer.specs.Lex.{is_block_quote}
use Rattle.gql_lexer.specs.BlockString.{is_cr_lf, lines, white_len, is_white_line, joined}

-- the length of the line end that the text begins with, or 0 where there is none
abbrev pub end_len : Text → ℕ
end_len [] = 0
end_len (b ∷ at) = if is_cr_lf (b ∷ at) then 2 else 1

-- the lines that come behind a line, where `behind` is the text from that line's end on
unfoldable pub following : Text → List Text
following behind = if end_len behind == 0 then [] else lines (drop (end_len behind) behind)

-- the line without its white space, or without n characters of it
abbrev pub without_indent : ℕ → Text → Text
without_indent n line = drop (min n (white_len line)) line

-- what more lines add: those of white space alone, of which `white` are met, only as far as another follows
abbrev pub added : Text → List Text → Text
added white [] = []
added white (line ∷ others) =
    if is_white_line line then added (white ++ (0x0A ∷ line)) others else white ++ (0x0A ∷ (line ++ added [] others))

-- the value, once more lines have followed the text that is written
abbrev pub completed : Text → Text → List Text → Text
completed [] white ls = joined ls
completed (b ∷ text) white ls = (b ∷ text) ++ added white ls

-- the line is taken in: the same value comes about
pub record TakesIn (text white line new_text new_white : Text) : Type 0 where
  pub empty : new_text ≡ [] → new_white ≡ []
  pub value : (ls : List Text) → completed new_text new_white ls ≡ completed text white (line ∷ ls)

-- the backslash that the text begins with, unless it escapes three quotes
abbrev pub kept_backslash : Text → Text
kept_backslash at = if is_block_quote at 1 then [] else 0x5C ∷ []

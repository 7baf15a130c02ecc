-- Characters of a text, counted ahead.
use Rattle.std.specs.Prelude.{ℕ, ◌+◌, ◌*◌, List, map, take}
use Rattle.std.specs.List.{count_by, range_with_len}
use Rattle.gql_source.specs.Lines.{begins_character}

-- how many characters begin before the offset
abbrev pub characters_before : List ℕ → ℕ → ℕ
characters_before text offset = count_by begins_character (take offset text)

-- how many bytes lie between two marks
abbrev pub step : ℕ
step = 256

-- the count of characters before each mark, from that at the text's start to the last one that is wanted
unfoldable pub counts_at_marks : List ℕ → ℕ → List ℕ
counts_at_marks text last = map (λ mark. characters_before text (mark * step)) (range_with_len 0 (last + 1))

-- Lines and columns of a text, which is its bytes in UTF-8.
use Rattle.std.specs.Prelude.{ℕ, ◌+◌, ◌-◌, Bool, not, ◌&&◌, ◌||◌, ◌==◌, nat_lt, nat_le, if◌then◌else◌, List, ◌∷◌}
use Rattle.std.specs.Prelude.{map, length, slice_index, slice_range, Option, Some, None}
use Rattle.std.specs.List.{filter, count_by, range_with_len}
use Rattle.std.specs.declared.ops.Range.{Range}
use Rattle.gql_source.specs.declared.line_column.LineColumn.{LineColumn}

abbrev pub line_feed : ℕ
line_feed = 10

abbrev pub carriage_return : ℕ
carriage_return = 13

-- a line ends with the byte at `at`: an LF, or a CR that no LF follows. So CR LF ends one line
abbrev pub ends_line : List ℕ → ℕ → Bool
ends_line text at =
    (slice_index text at == line_feed)
    || ((slice_index text at == carriage_return) && not (slice_index text (at + 1) == line_feed))

-- the starts of the lines that start at the offset or before it: of the first line, and of one behind each end
unfoldable pub line_starts : List ℕ → ℕ → List ℕ
line_starts text offset = 0 ∷ map (λ at. at + 1) (filter (ends_line text) (range_with_len 0 offset))

-- a byte begins a character unless it is one of those that go on with one, 80 to BF
abbrev pub begins_character : ℕ → Bool
begins_character byte = nat_lt byte 0x80 || nat_le 0xC0 byte

-- the start of the line that the offset lies in
abbrev pub line_start : List ℕ → ℕ → ℕ
line_start text offset = slice_index (line_starts text offset) (length (line_starts text offset) - 1)

-- How many lines start at the offset or before it, and 1 more than the characters of the last of them that begin
-- before the offset.
unfoldable pub line_column : List ℕ → ℕ → LineColumn
line_column text offset = record {
  line = length (line_starts text offset);
  column = count_by begins_character (slice_range text (line_start text offset) offset) + 1;
}

-- the same within the text or at its end, and nothing past that
abbrev pub line_column_within : List ℕ → ℕ → Option LineColumn
line_column_within text offset = if nat_le offset (length text) then Some (line_column text offset) else None

-- both ends of a range of a text
abbrev pub line_column_range_within : List ℕ → ℕ → ℕ → Option (Range LineColumn)
line_column_range_within text start end =
    if nat_le start (length text) && nat_le end (length text)
    then Some (record { start = line_column text start; end = line_column text end })
    else None

-- Spans: parts of files' texts.
use Rattle.std.specs.Prelude.{ℕ, ◌&&◌, ◌==◌, nat_le, if◌then◌else◌, Option, Some, None}
use Rattle.gql_source.specs.declared.file_id.FileId.{FileId}

-- the bytes from the offset on and before the end offset, in the file's text
pub record Span : Type 0 where
  pub file_id : FileId
  pub offset : ℕ
  pub end_offset : ℕ

-- from the start's offset to the end's end offset, where both lie in one file and in this order, and else the end
abbrev pub joined : Span → Span → Span
joined start end =
    if (start.file_id.number == end.file_id.number) && nat_le start.offset end.end_offset
    then record { file_id = start.file_id; offset = start.offset; end_offset = end.end_offset }
    else end

-- the span that begins where the first does and ends where the second does
abbrev pub recompose : Option Span → Option Span → Option Span
recompose None None = None
recompose None (Some end) = Some end
recompose (Some start) None = Some start
recompose (Some start) (Some end) = Some (joined start end)

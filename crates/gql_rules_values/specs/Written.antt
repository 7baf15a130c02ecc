-- What users wrote, as opposed to what is built in: the file of built-in definitions has the number 1.
use Rattle.std.specs.Prelude.{Bool, true, not, ◌==◌, Option, Some, None}
use Rattle.gql_source.specs.Span.{Span}

abbrev pub is_written : Option Span → Bool
is_written None = true
is_written (Some span) = not (span.file_id.number == 1)

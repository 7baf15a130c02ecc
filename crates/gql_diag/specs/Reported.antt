-- What is reported of a diagnostic.
use Rattle.std.specs.Prelude.{ℕ, false, List, [], Option, Some, None, unwrap_or, codes}
use Rattle.std.specs.Option.{option_and_then}
use Rattle.std.specs.Map.{lookup}
use Rattle.std.specs.declared.ops.Range.{Range}
use Rattle.gql_source.specs.declared.line_column.LineColumn.{LineColumn}
use Rattle.gql_source.specs.File.{Files, is_file}
use Rattle.gql_source.specs.Lines.{line_column_range_within}
use Rattle.gql_source.specs.Span.{Span}
use Rattle.gql_diag_messages.specs.declared.diagnostic_data.DiagnosticData.{DiagnosticData}
use Rattle.gql_diag_messages.specs.Details.{message_of, compat_of, fault_of, label_of, other_of}
use Rattle.gql_diag.specs.Report.{Report, labelled}

-- the lines and columns of both ends of a location, where they are found in the files
abbrev pub range_in : Option Span → Files → Option (Range LineColumn)
range_in None sources = None
range_in (Some span) sources =
    option_and_then (λ file. line_column_range_within file.source_text span.offset span.end_offset) (lookup (is_file span.file_id) sources)

-- a report that says this and no more
abbrev pub message_alone : Files → List ℕ → Report
message_alone sources message = record { sources = sources; message = message; labels = []; help = None; note = None; refused = false }

-- a label at the diagnostic's place, and one at the other definition's or field's
abbrev pub data_reported : DiagnosticData → Report → Report
data_reported item report =
    labelled (other_of (fault_of item.details)) (codes "previous definition here")
    (labelled item.location (label_of (fault_of item.details)) report)

-- the words of the reference implementation where it has any, else the message
abbrev pub compat_or_message : DiagnosticData → List ℕ
compat_or_message item = unwrap_or (compat_of item.details) (message_of item.details)

-- Reports on the command line.
use Rattle.std.specs.Prelude.{◌≢◌, ℕ, Bool, List, [], ◌∷◌, ◌++◌, Option, Some, None, codes}
use Rattle.std.specs.List.{flat_map}
use Rattle.jb_io.specs.Sink.{Told, TakesFront}
use Rattle.jb_io.specs.Stream.{HasFailed}
use Rattle.jb_io.specs.declared.sink.SinkFault.{SinkFault}
use Rattle.jb_text.specs.declared.refused.Refused.{Refused}
use Rattle.jb_text.specs.declared.refused.Refused.TheVariants as refused_variant
use Rattle.std.specs.Map.{lookup}
use Rattle.std.specs.Fmt.{decimal}
use Rattle.gql_source.specs.declared.line_column.LineColumn.{LineColumn}
use Rattle.gql_source.specs.File.{File, Files, is_file}
use Rattle.gql_source.specs.Lines.{line_column_within}
use Rattle.gql_source.specs.Span.{Span}

-- a report: where its texts stand, its parts, and whether it ran out of memory
pub record Report : Type 0 where
  pub sources : Files
  pub message : List ℕ
  pub labels : List (Span × List ℕ)
  pub help : Option (List ℕ)
  pub note : Option (List ℕ)
  pub refused : Bool

-- a report that has one more label, where that has a place
abbrev pub labelled : Option Span → List ℕ → Report → Report
labelled None text report = report
labelled (Some span) text report = record report { labels = report.labels ++ (span, text) ∷ [] }

abbrev pub placed_line : File → Option LineColumn → List ℕ → List ℕ
placed_line file None text = []
placed_line file (Some place) text =
    file.path ++ codes ":" ++ decimal place.line ++ codes ":" ++ decimal place.column ++ codes ": " ++ text ++ codes "\n"

abbrev pub line_in : Option File → Span → List ℕ → List ℕ
line_in None span text = []
line_in (Some file) span text = placed_line file (line_column_within file.source_text span.offset) text

-- the line of a label, where the start of its place is found
abbrev pub label_line : Files → Span × List ℕ → List ℕ
label_line sources label = line_in (lookup (is_file label.0.file_id) sources) label.0 label.1

-- a line that is there where it was set
abbrev pub line_of : List ℕ → Option (List ℕ) → List ℕ
line_of title None = []
line_of title (Some text) = title ++ text ++ codes "\n"

-- the message, the labels in order of adding, the help and the note, each in a line of its own
abbrev pub report_text : Report → List ℕ
report_text report =
    codes "Error: " ++ report.message ++ codes "\n"
    ++ flat_map (label_line report.sources) report.labels
    ++ line_of (codes "Help: ") report.help
    ++ line_of (codes "Note: ") report.note

-- A write that failed: the sink's count of faults rose, and it took only the first bytes of the lines.
pub record FailsWrite (report : Report) (taken taken' : Option Told) (faults faults' : ℕ) (cause : Refused SinkFault) : Type 0 where
  pub front : cause ≢ refused_variant.Memory → TakesFront taken taken' (report_text report)
  pub counted : cause ≢ refused_variant.Memory → HasFailed faults faults'

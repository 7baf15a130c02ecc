-- The reports of a list of diagnostics.
use Rattle.std.specs.Prelude.{ℕ, List}
use Rattle.std.specs.List.{flat_map}
use Rattle.gql_diag.specs.List.{Diagnostics}
use Rattle.gql_diag.specs.Reported.{data_reported, message_alone}
use Rattle.gql_diag_messages.specs.Details.{message_of}
use Rattle.gql_diag_messages.specs.declared.diagnostic_data.DiagnosticData.{DiagnosticData}
use Rattle.gql_diag.specs.Report.{report_text}
use Rattle.gql_source.specs.File.{Files}

-- the message of a diagnostic, and a line for each place that it is about and that is found
abbrev pub report_of : Files → DiagnosticData → List ℕ
report_of sources item = report_text (data_reported item (message_alone sources (message_of item.details)))

-- one after the other
abbrev pub reports_of : Diagnostics → List ℕ
reports_of list = flat_map (report_of list.sources) list.items

-- What going through a list of diagnostics shows: each diagnostic with the files.
use Rattle.std.specs.Prelude.{List, map}
use Rattle.gql_source.specs.File.{Files}
use Rattle.gql_diag_messages.specs.declared.diagnostic_data.DiagnosticData.{DiagnosticData}
use Rattle.gql_diag.specs.declared.diagnostic.Diagnostic.{Diagnostic}
use Rattle.gql_diag.specs.declared.diagnostics.Diagnostics.{Diagnostics}

abbrev pub shown : Diagnostic DiagnosticData → Files × DiagnosticData
shown diagnostic = (diagnostic.sources.now, diagnostic.error.now)

abbrev pub left_of : Diagnostics → List (Files × DiagnosticData)
left_of walk = map (λ item. (walk.sources.now, item)) walk.left.now

-- The order in which diagnostics are listed.
use Rattle.std.specs.Prelude.{ℕ, List, [], ◌∷◌, Option, Some, None}
use Rattle.std.specs.declared.cmp.Ordering.{Ordering}
use Rattle.std.specs.Ordering.{nat_cmp, on, then_cmp}
use Rattle.std.specs.Cmp.Lexicographic.{slice_cmp}
use Rattle.gql_source.specs.Span.{Span}
use Rattle.gql_diag_messages.specs.declared.details.Details.{Details}
use Rattle.gql_diag_messages.specs.declared.details.Details.TheVariants.{ParserLimit, SyntaxError, SchemaBuildError}
use Rattle.gql_diag_messages.specs.declared.details.Details.TheVariants.{ExecutableBuildError, CompilerDiagnostic, RecursionLimitError}
use Rattle.gql_diag_messages.specs.declared.diagnostic_data.DiagnosticData.{DiagnosticData}
use Rattle.gql_diag_messages.specs.RuleText.{row}

-- no place comes first, and then places go by file and by offset
abbrev pub place_key : Option Span → List ℕ
place_key None = []
place_key (Some span) = span.file_id.number ∷ span.offset ∷ []

abbrev pub place_order : Option Span → Option Span → Ordering
place_order = on place_key (slice_cmp nat_cmp)

-- broken rules go by their row, behind texts that are no sentence, and long chains come last
abbrev pub row_of : Details → ℕ
row_of (ParserLimit message) = 0
row_of (SyntaxError message) = 0
row_of (SchemaBuildError fault) = row fault.rule
row_of (ExecutableBuildError fault) = row fault.rule
row_of (CompilerDiagnostic fault) = row fault.rule
row_of RecursionLimitError = 69

abbrev pub names_of : Details → List (List ℕ)
names_of (SchemaBuildError fault) = fault.names
names_of (ExecutableBuildError fault) = fault.names
names_of (CompilerDiagnostic fault) = fault.names
names_of _ = []

abbrev pub other_of : Details → Option Span
other_of (SchemaBuildError fault) = fault.other
other_of (ExecutableBuildError fault) = fault.other
other_of (CompilerDiagnostic fault) = fault.other
other_of _ = None

-- by the row, then by the names as bytes, then by the other place
abbrev pub details_order : Details → Details → Ordering
details_order =
    then_cmp (on row_of nat_cmp)
    (then_cmp (on names_of (slice_cmp (slice_cmp nat_cmp))) (on other_of place_order))

abbrev pub by_place : DiagnosticData → DiagnosticData → Ordering
by_place = on (λ item. item.location) place_order

-- by the place first
abbrev pub list_order : DiagnosticData → DiagnosticData → Ordering
list_order = then_cmp by_place (on (λ item. item.details) details_order)

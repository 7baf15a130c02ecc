-- What is answered about a value that has faults or has none.
use Rattle.std.specs.Prelude.{◌≡◌, ◌≢◌, List, [], Result, Ok, Err}
use Rattle.gql_source.specs.File.{Files}
use Rattle.jb_text.specs.declared.refused.Refused.{Refused}
use Rattle.jb_text.specs.declared.refused.Refused.TheVariants.{Fault, Memory}
use Rattle.gql_diag.specs.List.{IsStableSort}
use Rattle.gql_diag.specs.Order.{list_order}
use Rattle.gql_diag.specs.declared.with_errors.WithErrors.{WithErrors}
use Rattle.gql_diag_messages.specs.declared.diagnostic_data.DiagnosticData.{DiagnosticData}

-- this value where nothing is wrong, and else it beside each fault, in the order of lists and with these files
abbrev pub IsJudged : {T : Type 0} → T → Files → List DiagnosticData → Result T (Refused (WithErrors T)) → Type 0
IsJudged value sources faults (Ok made) = (faults ≡ []) × (made ≡ value)
IsJudged value sources faults (Err (Fault refusal)) =
    (faults ≢ []) × ((refusal.partial ≡ value) × (IsStableSort list_order faults refusal.errors.items × (refusal.errors.sources ≡ sources)))
IsJudged value sources faults (Err Memory) = Unit {0}

-- A list of at most one item has no second of a name.
use Rattle.std.proofs.Common.{◌≡◌, ◌<◌, Bool, Option, List, [], ◌∷◌, ◌++◌, length, sym, arith}
use Rattle.std.proofs.lemmas.List.{append-nil}
use Rattle.gql_source.specs.Span.{Span}
use Rattle.gql_ast_base.specs.Names.{Named}
use Rattle.gql_diag_messages.specs.declared.rule.Rule.{Rule}
use Rattle.gql_diag_messages.specs.declared.diagnostic_data.DiagnosticData.{DiagnosticData}
use Rattle.gql_rules_values.specs.Seconds.{seconds}

pub none_of_few : {X : Type 0} (name_of : X → Named) (place_of : X → Option Span) (counts : Named → Bool) (rule : Rule) (faults : List DiagnosticData) (xs : List X) → length xs < 2
    → faults ≡ faults ++ seconds name_of place_of counts rule xs
none_of_few name_of place_of counts rule faults [] few = sym (append-nil faults)
none_of_few name_of place_of counts rule faults (x ∷ []) few = sym (append-nil faults)
none_of_few name_of place_of counts rule faults (x ∷ y ∷ xs) few = absurd (omega (arith, few))

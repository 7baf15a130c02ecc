-- An operation without a name is the only one: section 5.2.2.1 of GraphQL October 2021.
use Rattle.std.specs.Prelude.{Bool, ◌&&◌, nat_lt, List, [], ◌∷◌, None, is_none, length, if◌then◌else◌}
use Rattle.gql_ast.specs.declared.operation.OperationDefinition.{OperationDefinition}
use Rattle.gql_diag_messages.specs.declared.rule.Rule.TheVariants.{AmbiguousAnonymousOperation}
use Rattle.gql_diag_messages.specs.declared.diagnostic_data.DiagnosticData.{DiagnosticData}
use Rattle.gql_document.specs.Faults.{fault}

abbrev pub are_several : List OperationDefinition → Bool
are_several operations = nat_lt 1 (length operations)

-- without a name, though there are several operations
abbrev pub is_ambiguous : Bool → OperationDefinition → Bool
is_ambiguous several operation = several && is_none operation.name

abbrev pub ambiguous_anonymous_operation : Bool → OperationDefinition → List DiagnosticData
ambiguous_anonymous_operation several operation =
    if is_ambiguous several operation then fault AmbiguousAnonymousOperation [] operation.location None ∷ [] else []

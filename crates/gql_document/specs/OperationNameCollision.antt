-- Operations have distinct names: section 5.2.1.1 of GraphQL October 2021.
use Rattle.std.specs.Prelude.{Bool, true, List, [], ◌∷◌, ◌++◌, Option, is_none, if◌then◌else◌}
use Rattle.std.specs.Option.{option_map_or}
use Rattle.gql_ast_base.specs.Names.{Named}
use Rattle.gql_ast.specs.declared.operation.OperationDefinition.{OperationDefinition}
use Rattle.gql_diag_messages.specs.declared.rule.Rule.TheVariants.{OperationNameCollision}
use Rattle.gql_diag_messages.specs.declared.diagnostic_data.DiagnosticData.{DiagnosticData}
use Rattle.gql_schema_types.specs.Entries.{entry, put_new}
use Rattle.gql_document.specs.Faults.{name_fault}

abbrev pub itself : Named → Named
itself name = name

-- ---- behind these names comes a name

abbrev pub with_name : List Named → Named → List Named
with_name names name = put_new itself names name

abbrev pub is_first_name : List Named → Named → Bool
is_first_name names name = is_none (entry itself name.text names)

abbrev pub name_collision : List Named → Named → List DiagnosticData
name_collision names name = option_map_or (λ (first : Named). name_fault OperationNameCollision name first.location ∷ []) (entry itself name.text names) []

-- ---- or comes none

abbrev pub with_option : List Named → Option Named → List Named
with_option names name = option_map_or (with_name names) name names

abbrev pub is_first : List Named → Option Named → Bool
is_first names name = option_map_or (is_first_name names) name true

abbrev pub collision : List Named → Option Named → List DiagnosticData
collision names name = option_map_or (name_collision names) name []

-- ---- operations

abbrev pub first_or_none : List Named → OperationDefinition → List OperationDefinition
first_or_none names operation = if is_first names operation.name then operation ∷ [] else []

abbrev pub first_after : List Named → List OperationDefinition → List OperationDefinition
first_after names [] = []
first_after names (operation ∷ operations) = first_or_none names operation ++ first_after (with_option names operation.name) operations

-- the first of each name, and those without a name
abbrev pub first_operations : List OperationDefinition → List OperationDefinition
first_operations operations = first_after [] operations

abbrev pub collisions_after : List Named → List OperationDefinition → List DiagnosticData
collisions_after names [] = []
collisions_after names (operation ∷ operations) = collision names operation.name ++ collisions_after (with_option names operation.name) operations

-- one for each operation that has the name of one that came before
abbrev pub operation_name_collisions : List OperationDefinition → List DiagnosticData
operation_name_collisions operations = collisions_after [] operations

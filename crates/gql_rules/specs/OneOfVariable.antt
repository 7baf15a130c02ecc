-- A variable as the one member of a literal at a one-of input object is not nullable: sections 3.10.1 and 5.8.5 of GraphQL September 2025. The
-- literal is told.
use Rattle.std.specs.Prelude.{Bool, false, not, List, [], ◌∷◌, if◌then◌else◌}
use Rattle.std.specs.Option.{option_map_or}
use Rattle.gql_ast_base.specs.TypeParts.{is_non_null}
use Rattle.gql_ast.specs.declared.operation.VariableDefinition.{VariableDefinition}
use Rattle.gql_diag_messages.specs.declared.diagnostic_data.DiagnosticData.{DiagnosticData}
use Rattle.gql_rules_values.specs.OneOfValue.{one_of_fault}
use Rattle.gql_rules.specs.UndefinedVariable.{variable_called}
use Rattle.gql_ast_base.specs.Names.{Named}
use Rattle.gql_rules.specs.Uses.{Use}

-- the variable may be null, whether its type is defined or not
abbrev pub is_nullable : VariableDefinition → Bool
is_nullable variable = not (is_non_null variable.ty)

-- an operation with these variables defines the one that is used, and it may be null
abbrev pub may_be_null : List VariableDefinition → Use → Bool
may_be_null variables used = option_map_or is_nullable (variable_called variables used.name.text) false

-- the literal whose one member the use is, if it is one
abbrev pub literal_told : Use → List DiagnosticData
literal_told used = option_map_or (λ (name : Named). one_of_fault name used.place.literal ∷ []) used.place.one_of []

abbrev pub one_of_variable : List VariableDefinition → Use → List DiagnosticData
one_of_variable variables used = if may_be_null variables used then literal_told used else []

-- A variable is of an input type: section 5.8.2 of GraphQL October 2021.
use Rattle.std.specs.Prelude.{List, [], ◌∷◌, None}
use Rattle.gql_ast.specs.declared.operation.VariableDefinition.{VariableDefinition}
use Rattle.gql_ast.specs.TypeText.{type_text}
use Rattle.gql_diag_messages.specs.declared.rule.Rule.TheVariants.{VariableInputType}
use Rattle.gql_diag_messages.specs.declared.diagnostic_data.DiagnosticData.{DiagnosticData}
use Rattle.gql_rules_values.specs.Faults.{fault, only_if}
use Rattle.gql_ast_base.specs.TypeParts.{named_type}
use Rattle.gql_schema_types.specs.declared.types.ExtendedType.{ExtendedType}
use Rattle.gql_rules_nodes.specs.Composite.{is_composite_name}

abbrev pub output_type : VariableDefinition → DiagnosticData
output_type variable = fault VariableInputType (variable.name.text ∷ type_text variable.ty ∷ []) variable.location None

-- objects, interfaces and unions are no input types
abbrev pub variable_input_type : List ExtendedType → VariableDefinition → List DiagnosticData
variable_input_type types variable = only_if (is_composite_name types (named_type variable.ty).text) (output_type variable)

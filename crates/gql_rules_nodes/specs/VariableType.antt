-- The type of a variable is defined: sections 3.3 and 5.8.2 of GraphQL October 2021. A built-in scalar that the schema leaves out is not.
use Rattle.std.specs.Prelude.{not, List}
use Rattle.gql_ast_base.specs.Names.{Named}
use Rattle.gql_ast.specs.declared.operation.VariableDefinition.{VariableDefinition}
use Rattle.gql_diag_messages.specs.declared.rule.Rule.TheVariants.{UndefinedDefinition}
use Rattle.gql_diag_messages.specs.declared.diagnostic_data.DiagnosticData.{DiagnosticData}
use Rattle.gql_rules_values.specs.Faults.{name_fault, only_if}
use Rattle.gql_rules_values.specs.Known.{is_defined}
use Rattle.gql_ast_base.specs.TypeParts.{named_type}
use Rattle.gql_rules_values.specs.declared.known.Defined.TheVariants.{Types}
use Rattle.gql_schema_types.specs.declared.types.ExtendedType.{ExtendedType}

abbrev pub unless_defined : List ExtendedType → Named → List DiagnosticData
unless_defined types name = only_if (not (is_defined Types types name.text)) (name_fault UndefinedDefinition name)

-- told at the name
abbrev pub undefined_variable_type : List ExtendedType → VariableDefinition → List DiagnosticData
undefined_variable_type types variable = unless_defined types (named_type variable.ty)

-- An argument that is given is defined: section 5.4.1 of GraphQL October 2021.
use Rattle.std.specs.Prelude.{ℕ, not, List, [], ◌∷◌, Option, None, is_some}
use Rattle.gql_ast.specs.declared.field_definition.InputValueDefinition.{InputValueDefinition}
use Rattle.gql_ast_base.specs.declared.directive.Argument.{Argument}
use Rattle.gql_diag_messages.specs.declared.rule.Rule.TheVariants.{UndefinedArgument}
use Rattle.gql_diag_messages.specs.declared.diagnostic_data.DiagnosticData.{DiagnosticData}
use Rattle.gql_rules_values.specs.Faults.{fault, only_if}
use Rattle.gql_rules_values.specs.UndefinedInputValue.{input_name}
use Rattle.gql_schema_types.specs.Entries.{entry}

-- the definition of an argument: the first of its name
abbrev pub defined : List InputValueDefinition → List ℕ → Option InputValueDefinition
defined definitions name = entry input_name name definitions

-- an argument that the field or directive of the name does not have
abbrev pub undefined_argument : List ℕ → List InputValueDefinition → Argument → List DiagnosticData
undefined_argument name definitions argument =
    only_if (not (is_some (defined definitions argument.name.text))) (fault UndefinedArgument (argument.name.text ∷ name ∷ []) argument.location None)

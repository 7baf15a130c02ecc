-- The values of an operation's variables: section 6.1.2 of GraphQL October 2021.
use Rattle.std.specs.Prelude.{ℕ, List, [], Option, Some, None}
use Rattle.std.specs.Str.{bytes_eq}
use Rattle.std.specs.Map.{lookup}
use Rattle.jb_tree.specs.declared.value.Value.{Value}
use Rattle.gql_ast.specs.declared.operation.VariableDefinition.{VariableDefinition}
use Rattle.gql_schema_types.specs.declared.types.ExtendedType.{ExtendedType}
use Rattle.gql_coerce.specs.Outcome.{Outcome, mapped}
use Rattle.gql_coerce.specs.Faults.{fault_at}
use Rattle.gql_coerce.specs.Subject.{variable_words, default_words}
use Rattle.gql_coerce.specs.Messages.{missing_variable}
use Rattle.gql_coerce.specs.Filled.{Members, filled, not_given}
use Rattle.gql_coerce.specs.InputValue.{coerced}

abbrev pub variable_name : VariableDefinition → List ℕ
variable_name variable = variable.name.text

module _ (types : List ExtendedType) where
  -- a variable's value: what is given for it, coerced, else its default
  abbrev pub variable_given : Option Value → VariableDefinition → Outcome (Option Value)
  variable_given (Some value) variable = mapped Some (coerced types value (variable_words (variable_name variable)) variable.ty)
  variable_given None variable =
      not_given (default_words (variable_name variable)) variable.ty variable.default_value
      (fault_at variable.location (missing_variable (variable_name variable)))

  abbrev pub variable_value : Members → VariableDefinition → Outcome (Option Value)
  variable_value values variable = variable_given (lookup (bytes_eq (variable_name variable)) values) variable

  abbrev pub coerced_variables : List VariableDefinition → Members → Outcome Members
  coerced_variables variables values = filled (variable_value values) variable_name [] variables

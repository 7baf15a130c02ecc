-- The value of a variable.
use Rattle.std.proofs.Common.{◌≡◌, List, Some, None, ap}
use Rattle.std.specs.Str.{bytes_eq}
use Rattle.std.specs.Map.{lookup}
use Rattle.jb_tree.specs.declared.value.Value.{Value}
use Rattle.gql_ast.specs.declared.operation.VariableDefinition.{VariableDefinition}
use Rattle.gql_schema_types.specs.declared.types.ExtendedType.{ExtendedType}
use Rattle.gql_coerce.specs.Outcome.{mapped}
use Rattle.gql_coerce.specs.Faults.{fault_at}
use Rattle.gql_coerce.specs.Messages.{missing_variable}
use Rattle.gql_coerce.specs.Subject.{variable_words, default_words}
use Rattle.gql_coerce.specs.Filled.{Members, not_given}
use Rattle.gql_coerce.specs.InputValue.{coerced}
use Rattle.gql_coerce.specs.Variables.{variable_name, variable_given, variable_value}

module _ (types : List ExtendedType) (values : Members) (variable : VariableDefinition) where
  pub variable-given : (value : Value) → lookup (bytes_eq (variable_name variable)) values ≡ Some value
      → variable_value types values variable ≡ mapped Some (coerced types value (variable_words (variable_name variable)) variable.ty)
  variable-given value is = ap (λ found. variable_given types found variable) is

  pub variable-absent : lookup (bytes_eq (variable_name variable)) values ≡ None
      → variable_value types values variable ≡ not_given (default_words (variable_name variable)) variable.ty variable.default_value (fault_at variable.location (missing_variable (variable_name variable)))
  variable-absent is = ap (λ found. variable_given types found variable) is

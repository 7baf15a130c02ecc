-- A variable that is used is defined in each operation that reaches the use: section 5.8.3 of GraphQL October 2021. `use_faults` of
-- VariableFaults.antt says where it is broken.
use Rattle.std.specs.Prelude.{ℕ, Bool, not, List, [], ◌∷◌, Option, None, is_some}
use Rattle.gql_ast_base.specs.Names.{Named}
use Rattle.gql_ast.specs.declared.operation.VariableDefinition.{VariableDefinition}
use Rattle.gql_diag_messages.specs.declared.rule.Rule.TheVariants.{UndefinedVariable}
use Rattle.gql_diag_messages.specs.declared.diagnostic_data.DiagnosticData.{DiagnosticData}
use Rattle.gql_rules_values.specs.Faults.{fault, only_if}
use Rattle.gql_rules.specs.Uses.{Use}
use Rattle.gql_schema_types.specs.Entries.{entry}

abbrev pub variable_name : VariableDefinition → Named
variable_name variable = variable.name

-- the variable that a name stands for: the first of the name
abbrev pub variable_called : List VariableDefinition → List ℕ → Option VariableDefinition
variable_called variables name = entry variable_name name variables

-- an operation with these variables lacks the one that is used
abbrev pub is_undefined : List VariableDefinition → Use → Bool
is_undefined variables used = not (is_some (variable_called variables used.name.text))

abbrev pub undefined_fault : Use → DiagnosticData
undefined_fault used = fault UndefinedVariable (used.name.text ∷ []) used.location None

abbrev pub undefined_variable : List VariableDefinition → Use → List DiagnosticData
undefined_variable variables used = only_if (is_undefined variables used) (undefined_fault used)

-- A variable is used in its operation, or in a fragment that this reaches: section 5.8.4 of GraphQL October 2021.
-- `operation_faults` of VariableFaults.antt says where it is broken.
use Rattle.std.specs.Prelude.{ℕ, Bool, not, List, [], ◌∷◌, None}
use Rattle.std.specs.List.{flat_map, list_any}
use Rattle.std.specs.Str.{bytes_eq}
use Rattle.gql_ast.specs.declared.operation.VariableDefinition.{VariableDefinition}
use Rattle.gql_diag_messages.specs.declared.rule.Rule.TheVariants.{UnusedVariable}
use Rattle.gql_diag_messages.specs.declared.diagnostic_data.DiagnosticData.{DiagnosticData}
use Rattle.gql_rules_values.specs.Faults.{fault, only_if}
use Rattle.gql_rules.specs.Uses.{Use}

-- one of these uses is of the variable of the name
abbrev pub is_used : List Use → List ℕ → Bool
is_used uses name = list_any (λ (used : Use). bytes_eq name used.name.text) uses

abbrev pub unless_used : Bool → VariableDefinition → List DiagnosticData
unless_used used variable = only_if (not used) (fault UnusedVariable (variable.name.text ∷ []) variable.location None)

-- those of the variables that none of these uses is of
abbrev pub unused_variables : List Use → List VariableDefinition → List DiagnosticData
unused_variables uses variables = flat_map (λ (variable : VariableDefinition). unless_used (is_used uses variable.name.text) variable) variables

use Rattle.std.proofs.Common.{◌≡◌, ◌++◌, drop}
use Rattle.gql_diag_messages.specs.declared.rule.Rule.TheVariants.{UniqueVariable}
use Rattle.gql_rules_values.specs.Seconds.{seconds_after}
use Rattle.gql_rules_values.specs.UniqueInputValue.{each}
use Rattle.gql_rules_nodes.specs.UniqueVariable.{variable_name, variable_place, unique_variable}
use Rattle.gql_rules_nodes.proofs.unique_variable.list_unique_variable.Given as goal

-- what is listed and what is left make the whole
abbrev pub invariant-loop-variable : goal.invariant-loop-variable
invariant-loop-variable l =
    l.faults ++ seconds_after variable_name variable_place each UniqueVariable l.seen (drop l.variable-index l.variables) ≡ l.fn.faults ++ unique_variable l.variables

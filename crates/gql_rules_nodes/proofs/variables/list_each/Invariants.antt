use Rattle.std.proofs.Common.{◌≡◌, ◌++◌, drop}
use Rattle.std.specs.List.{flat_map}
use Rattle.gql_rules_nodes.specs.Variables.{variable_faults}
use Rattle.gql_rules_nodes.proofs.variables.list_each.Given as goal

-- what is listed and what is left make the whole
abbrev pub invariant-loop-variable : goal.invariant-loop-variable
invariant-loop-variable l =
    l.faults ++ flat_map (variable_faults l.schema) (drop l.variable-index l.variables) ≡ l.fn.faults ++ flat_map (variable_faults l.schema) l.variables

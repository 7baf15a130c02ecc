use Rattle.std.proofs.Common.{◌≡◌, ◌++◌, drop}
use Rattle.gql_rules.specs.bridge.Operations.{not_noted}
use Rattle.gql_rules.proofs.unused_variable.list_unused_variables.Given as goal

-- what is listed and what is left make the whole
abbrev pub invariant-loop-variable : goal.invariant-loop-variable
invariant-loop-variable l = l.faults ++ not_noted l.used (drop l.variable-index l.variables) ≡ l.fn.faults ++ not_noted l.used l.variables

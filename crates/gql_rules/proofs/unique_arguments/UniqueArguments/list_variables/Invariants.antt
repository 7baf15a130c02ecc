use Rattle.std.proofs.Common.{◌≡◌, ◌++◌, drop}
use Rattle.gql_rules.specs.UniqueArguments.{variables_arguments}
use Rattle.gql_rules.proofs.unique_arguments.UniqueArguments.list_variables.Given as goal

-- what is listed and what is left make the whole
abbrev pub invariant-loop-variable : goal.invariant-loop-variable
invariant-loop-variable l = l.faults ++ variables_arguments (drop l.variable-index l.variables) ≡ l.fn.faults ++ variables_arguments l.variables

use Rattle.std.proofs.Common.{◌≡◌, ◌++◌, drop}
use Rattle.gql_rules.specs.UniqueVariables.{unique_variables}
use Rattle.gql_rules.proofs.unique_variables.list_unique_variables.Given as goal

-- what is listed and what is left make the whole
abbrev pub invariant-loop-operation : goal.invariant-loop-operation
invariant-loop-operation l =
    l.faults ++ unique_variables (drop l.operation-index l.operations) ≡ l.fn.faults ++ unique_variables l.operations

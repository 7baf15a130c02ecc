use Rattle.std.proofs.Common.{◌≡◌, ◌++◌, take, drop}
use Rattle.gql_rules_values.specs.RequiredArgument.{required_after, required_arguments}
use Rattle.gql_rules_values.proofs.required_argument.list_required_arguments.Given as goal

-- what is listed and what is left make the whole
abbrev pub invariant-loop-at : goal.invariant-loop-at
invariant-loop-at l =
    l.faults ++ required_after l.call.directive l.call.name.now l.call.location l.arguments (take l.at l.definitions) (drop l.at l.definitions)
    ≡ l.fn.faults ++ required_arguments l.call.directive l.call.name.now l.call.location l.arguments l.definitions

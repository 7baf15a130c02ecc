use Rattle.std.proofs.Common.{◌≡◌, ◌++◌, drop}
use Rattle.std.specs.List.{flat_map}
use Rattle.gql_rules_values.specs.Arguments.{unknown_argument}
use Rattle.gql_rules_values.proofs.arguments.list_each_unknown.Given as goal

-- what is listed and what is left make the whole
abbrev pub invariant-loop-argument : goal.invariant-loop-argument
invariant-loop-argument l = l.faults ++ flat_map (unknown_argument l.counted l.types) (drop l.argument-index l.arguments) ≡ l.fn.faults ++ flat_map (unknown_argument l.counted l.types) l.arguments

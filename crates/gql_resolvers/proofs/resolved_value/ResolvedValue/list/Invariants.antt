use Rattle.std.proofs.Common.{◌≡◌, ◌++◌, Ok, map}
use Rattle.gql_resolvers.proofs.resolved_value.ResolvedValue.list.Given as goal

-- what is made so far, and what is left
abbrev pub invariant-loop-item : goal.invariant-loop-item
invariant-loop-item g l = l.made ++ map Ok l.item-iterator ≡ map Ok l.fn.items

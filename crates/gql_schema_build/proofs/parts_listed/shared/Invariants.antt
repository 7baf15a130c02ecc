use Rattle.std.proofs.Common.{◌≡◌, ◌++◌}
use Rattle.gql_schema_build.proofs.parts_listed.shared.Given as goal

-- what is there and what is left make the whole
abbrev pub invariant-loop-item : goal.invariant-loop-item
invariant-loop-item g l = l.list ++ l.item-iterator ≡ l.fn.items

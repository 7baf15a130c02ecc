use Rattle.std.proofs.Common.{◌≡◌, ◌++◌}
use Rattle.std.specs.Vec.Iter.{into_iter_items}
use Rattle.gql_schema_build.proofs.parts_listed.listed.Given as goal

-- what is there and what is left make the whole
abbrev pub invariant-loop-item : goal.invariant-loop-item
invariant-loop-item g l = l.list ++ into_iter_items l.item-iterator ≡ l.fn.items.items

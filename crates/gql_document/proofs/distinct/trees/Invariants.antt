use Rattle.std.proofs.Common.{◌≡◌, ◌++◌}
use Rattle.std.specs.Vec.Iter.{into_iter_items}
use Rattle.gql_document.proofs.distinct.trees.Given as goal

-- what is there and what is left make the whole
abbrev pub invariant-loop-fragment : goal.invariant-loop-fragment
invariant-loop-fragment l = l.made ++ into_iter_items l.fragment-iterator ≡ l.fn.fragments.items

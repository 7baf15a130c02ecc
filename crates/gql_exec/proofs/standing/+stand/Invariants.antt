use Rattle.std.proofs.Common.{◌≡◌, ◌+◌, ◌++◌, map}
use Rattle.gql_resolvers.specs.Meaning.{item_by, meaning_by, meanings_by}
use Rattle.gql_exec.proofs.Weights.{weight, weights, told}
use Rattle.gql_exec.proofs.standing.+stand.Given as goal

abbrev pub decreases-value : goal.decreases-value
decreases-value g l = weight (meaning_by g.K.Standing.sees l.resolved)

abbrev pub decreases-list : goal.decreases-list
decreases-list g l = weights (meanings_by g.K.Standing.sees l.items)

abbrev pub decreases-item : goal.decreases-item
decreases-item g l = 1 + weight (item_by g.K.Standing.sees l.item)

-- what is made means what the items mean that are taken
abbrev pub invariant-list-loop-each : goal.invariant-list-loop-each
invariant-list-loop-each g l =
    map (item_by g.K.Standing.shows) l.made ++ map (told g.K.Standing.sees (g.K.Standing.stands l.kind)) l.each-iterator
    ≡ map (told g.K.Standing.sees (g.K.Standing.stands l.kind)) l.fn.items

use Rattle.std.proofs.Common.{◌≡◌, ◌++◌, drop}
use Rattle.gql_rules_values.specs.Seconds.{seconds_after, seconds}
use Rattle.gql_rules_values.proofs.seconds.list_seconds.Given as goal

-- what is listed and what is left make the whole
abbrev pub invariant-loop-item : goal.invariant-loop-item
invariant-loop-item g l =
    let name_of = g.T.Placed.name_of in
    let place_of = g.T.Placed.place_of in
    let counts = g.C.Counted.counts l.counted in
    l.faults ++ seconds_after name_of place_of counts l.rule l.seen (drop l.item-index l.items) ≡ l.fn.faults ++ seconds name_of place_of counts l.rule l.items

use Rattle.std.proofs.Common.{length, sym, subst}
use Rattle.gql_graph.specs.bridge.Explored.{AreKeys, AreFields}
use Rattle.gql_graph.proofs.Growing.{added}
use Rattle.gql_graph.proofs.exploration.add_set.Goals as goal

pub returns-clause-added : goal.returns-clause-added
returns-clause-added c =
    let sets = c.args.sets.now in
    let g = sets.fragments.now in
    let states = c.args.states.now in
    added g sets.keys.now sets.classes.now c.args.items.now c.as_slice.result.now (length c.args.buckets.now) (length states) c.args.in_full c.args.seen.now c.add_pairs.new.seen
    c.requires.clean.nodes (subst (AreKeys sets.keys.now) (sym c.requires.clean.as_many) c.requires.keys)
    (subst (AreFields g (length states) c.args.items.now) (sym c.as_slice.ensures.value) c.in_ok-fields.ensures.fields) c.in_ok-add_pairs.ensures.paired

use Rattle.std.proofs.Common.{subst}
use Rattle.gql_graph.specs.bridge.Explored.{AreAdded}
use Rattle.gql_graph.specs.bridge.Exploring.{sets_by, field_sets}
use Rattle.gql_graph.proofs.Growing.{begun, each_set, only_sets}
use Rattle.gql_graph.proofs.exploration.add_all_sets.Goals as goal

pub returns-clause-begun : goal.returns-clause-begun
returns-clause-begun g c =
    let held = c.args.sets.now in
    let items = g.C.Compares.items c.args.compares.now in
    let s = sets_by items (g.C.Compares.below c.args.compares.now) held in
    let keys = held.keys.now in
    begun s held.classes.now (field_sets items keys) (each_set items keys) (only_sets items keys) c.add_rows.new.seen c.add_rows-2.new.seen c.add_field_sets.new.seen
    (subst (λ old. AreAdded s.fragments keys held.classes.now s.operations old c.add_rows.new.seen) c.requires.none
    (subst (λ rows. AreAdded s.fragments keys held.classes.now rows c.args.seen.now c.add_rows.new.seen) c.as_slice.ensures c.in_ok-add_rows.ensures.added))
    (subst (λ rows. AreAdded s.fragments keys held.classes.now rows c.add_rows.new.seen c.add_rows-2.new.seen) c.as_slice-2.ensures c.in_ok-add_rows-2.ensures.added)
    c.in_ok-add_field_sets.ensures.added

use Rattle.std.proofs.Common.{◌≡◌, ◌+◌, ℕ, List, length, replicate, sym, ap, ◌∙◌, subst}
use Rattle.std.proofs.lemmas.List.{length-replicate}
use Rattle.gql_graph.specs.bridge.Explored.{AreEmpty, AreUnmarked}
use Rattle.gql_graph.proofs.Growing.{all_empty, as_many_buckets, all_unmarked}
use Rattle.gql_graph.proofs.exploration.explore.Goals as goal

pub add_all_sets-requires-clause-clean : goal.add_all_sets-requires-clause-clean
add_all_sets-requires-clause-clean g c =
    let sets = c.args.sets.now in
    let count = length c.as_slice.result.now + length sets.keys.now in
    let zeros : c.as_mut_slice.result.now ≡ replicate count 0 = c.as_mut_slice.ensures.value ∙ c.in_ok-states.ensures.items_if_clones_equal (λ y is. is) in
    record {
      unmarked = subst AreUnmarked (sym zeros) (all_unmarked count);
      nodes = ap length zeros ∙ length-replicate count 0 ∙ ap (λ (l : List (List ℕ)). length l + length sets.keys.now) c.as_slice.ensures;
      empty = subst AreEmpty (sym c.in_ok-buckets.ensures) (all_empty sets.key_count);
      as_many = ap length c.in_ok-buckets.ensures ∙ as_many_buckets sets.key_count;
    }

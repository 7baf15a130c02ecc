use Rattle.std.proofs.Common.{◌≡◌, suc, true, ◌∷◌, [], ◌++◌, ◌+◌, map, sym, ap, ◌∙◌, subst, arith}
use Rattle.std.specs.List.{range_with_len}
use Rattle.gql_graph.specs.bridge.Explored.{AreAdded, IsAdded}
use Rattle.gql_graph.proofs.Growing.{one_added, range_more, map_more}
use Rattle.gql_graph.proofs.exploration.add_field_sets.Goals as goal

pub loop-field-preserved : goal.loop-field-preserved
loop-field-preserved g c =
    let sets = c.args.sets.now in
    let items = g.C.Compares.items c.args.compares.now in
    let field = c.loop-field.field in
    let before = range_with_len 0 field in
    let next : field + 1 ≡ suc field = omega arith in
    let same : map items before ++ items field ∷ [] ≡ map items (range_with_len 0 (field + 1)) = sym (ap (map items) (ap (range_with_len 0) next ∙ range_more 0 field ∙ ap (λ n. before ++ n ∷ []) (omega arith)) ∙ map_more items before field) in
    record {
      clean = c.in_ok-add_set.ensures.clean;
      added = subst (λ l. AreAdded sets.fragments.now sets.keys.now sets.classes.now l c.args.seen.now c.add_set.new.seen) same
          (one_added sets.fragments.now sets.keys.now sets.classes.now (map items before) (items field) c.args.seen.now c.loop-field.seen c.add_set.new.seen c.loop-field.invariant.added
          (subst (λ l. IsAdded sets.fragments.now sets.keys.now sets.classes.now true l c.loop-field.seen c.add_set.new.seen) c.items.ensures c.in_ok-add_set.ensures.added));
    }

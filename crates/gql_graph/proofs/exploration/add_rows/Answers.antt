use Rattle.std.proofs.Common.{◌≡◌, suc, true, ◌∷◌, [], ◌++◌, ◌+◌, take, sym, ap, ◌∙◌, subst, arith}
use Rattle.std.proofs.Math.Seq.{take-suc}
use Rattle.gql_graph.specs.bridge.Explored.{AreAdded, IsAdded}
use Rattle.gql_graph.proofs.Growing.{one_added}
use Rattle.gql_graph.proofs.exploration.add_rows.Goals as goal

pub loop-row-preserved : goal.loop-row-preserved
loop-row-preserved c =
    let sets = c.args.sets.now in
    let i = c.loop-row.row-index in
    let row = c.row-item.result in
    let next : i + 1 ≡ suc i = omega arith in
    let same : take i c.args.rows.now ++ row ∷ [] ≡ take (i + 1) c.args.rows.now =
    sym (ap (λ n. take n c.args.rows.now) next ∙ take-suc c.args.rows.now i row (omega arith) ∙ ap (λ x. take i c.args.rows.now ++ x ∷ []) (sym c.row-item.is)) in
    record {
      clean = c.in_ok-add_set.ensures.clean;
      added = subst (λ l. AreAdded sets.fragments.now sets.keys.now sets.classes.now l c.args.seen.now c.add_set.new.seen) same
          (one_added sets.fragments.now sets.keys.now sets.classes.now (take i c.args.rows.now) row c.args.seen.now c.loop-row.seen c.add_set.new.seen c.loop-row.invariant.added
          (subst (λ l. IsAdded sets.fragments.now sets.keys.now sets.classes.now true l c.loop-row.seen c.add_set.new.seen) c.as_slice.ensures c.in_ok-add_set.ensures.added));
    }

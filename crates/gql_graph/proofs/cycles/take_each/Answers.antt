use Rattle.std.proofs.Common.{inl, inr, sym, subst, arith}
use Rattle.gql_graph.specs.bridge.Cycles.{HasPart}
use Rattle.gql_graph.proofs.Flooded.{same_or_not}
use Rattle.gql_graph.proofs.cycles.take_each.Goals as goal

pub loop-node-preserved : goal.loop-node-preserved
loop-node-preserved c =
    let before = c.loop-node.invariant in
    let node = c.loop-node.node in
    record {
      parts = c.in_ok-take_part.ensures.parts before.parts;
      all = λ v below. elim (same_or_not v node) [
        | inl e ↦ subst (HasPart c.take_part.new.parts) (sym e) (c.in_ok-take_part.ensures.taken before.parts (omega arith))
        | inr other ↦ c.in_ok-take_part.ensures.kept before.parts v (before.all v (omega arith))
      ];
    }

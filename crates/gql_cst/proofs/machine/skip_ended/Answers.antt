use Rattle.std.proofs.Common.{◌≡◌, [], ◌∷◌, None, reverse, subst, rules, arith}
use Rattle.std.proofs.lemmas.Grind.{common_steps}
use Rattle.gql_cst.specs.bridge.Frames.{IsSame}
use Rattle.gql_cst.proofs.Frames.{same-then, same-skipped, reverse-pushed}
use Rattle.gql_cst.proofs.machine.skip_ended.Goals as goal

pub loop-top-preserved : goal.loop-top-preserved
loop-top-preserved c =
    let top = c.loop-top.top in
    let outer = reverse c.loop-top.outer.items in
    let way : top.way.now ≡ [] = grind (arith, common_steps) in
    let kind : top.kind ≡ None = search rules in
    let same = same-then _ (top ∷ outer) outer c.loop-top.invariant (same-skipped top outer way kind) in
    subst (IsSame (c.args.top.now ∷ reverse c.args.outer.now.items)) (reverse-pushed _ c.pop.new.self.items c.in-Some.frame c.in-Some.ensures.items) same

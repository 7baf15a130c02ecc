use Rattle.std.proofs.Common.{List, ℕ, suc, sym, ◌∙◌}
use Rattle.jb_map.proofs.Inserted.{drop_first, inserted_more}
use Rattle.jb_map.proofs.pairs.Pairs.extend.Goals as goal

pub loop-key-preserved : goal.loop-key-preserved
loop-key-preserved g c =
    let n = c.loop-key.invariant.0 in
    let pair : List ℕ × g.row.V.Denot = (c.in-Some.key, c.in-Some.value) in
    let front = sym c.loop-key.invariant.2 ∙ c.in-Some.ensures.steps in (
      suc n,
      inserted_more c.args.self.now c.args.pairs c.loop-key.self n pair c.next.new.self c.put.new.self c.loop-key.invariant.1 front c.in-None-put.ensures,
      sym (drop_first n c.args.pairs pair c.next.new.self front),
    )

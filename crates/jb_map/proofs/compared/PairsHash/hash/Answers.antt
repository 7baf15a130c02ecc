use Rattle.std.proofs.Common.{◌<◌, Some, length, fold, ap, sym, subst, ◌∙◌, arith}
use Rattle.std.specs.List.{flat_map}
use Rattle.std.specs.Hash.{le_bytes, str as fed_text}
use Rattle.jb_map.specs.ByKey.{by_key, pair_input}
use Rattle.jb_map.specs.bridge.NextByKey.{key_of}
use Rattle.jb_map.proofs.Ordered.{length-by_key}
use Rattle.jb_map.proofs.Taken.{after, after_none, next_taken, none_taken, feed_pair}
use Rattle.jb_map.proofs.compared.PairsHash.hash.Goals as goal

pub loop-at-init : goal.loop-at-init
loop-at-init g c =
    let write = g.H.Hasher.write in
    let es = c.args.self.now in
    let F = pair_input g.V.Hash.hash_input in
    let counted = c.write_usize.ensures ∙ ap (λ n. write c.args.state.now (le_bytes 8 n)) (c.len.ensures.value ∙ sym (length-by_key es)) in
    (tt, λ i. fold write (counted i) (flat_map F (after_none (by_key es) i)))

pub loop-at-smaller : goal.loop-at-smaller
loop-at-smaller g c =
    let ls = by_key c.args.self.now in
    let last = key_of c.args.self.now c.loop-at.last in
    let m = c.key_at.result.now in
    let taken = next_taken c.args.self.now last c.in-Some.at m c.value_at.result.now c.len.ensures.distinct c.key_at.ensures c.value_at.ensures c.in-Some.ensures.key in
    subst (λ k. length (after k ls) < length (after last ls)) (sym c.key_at.ensures)
    (subst (λ l. length (after (Some m) ls) < length l) (sym taken) (omega arith))

pub loop-at-preserved : goal.loop-at-preserved
loop-at-preserved g c =
    let write = g.H.Hasher.write in
    let ls = by_key c.args.self.now in
    let F = pair_input g.V.Hash.hash_input in
    let last = key_of c.args.self.now c.loop-at.last in
    let m = c.key_at.result.now in
    let v = c.value_at.result.now in
    let taken = next_taken c.args.self.now last c.in-Some.at m v c.len.ensures.distinct c.key_at.ensures c.value_at.ensures c.in-Some.ensures.key in
    let rest = flat_map F (after (Some m) ls) in (
      c.in-Some.ensures.within,
      ap (λ k. fold write c.hash-in-Some.new.state (flat_map F (after k ls))) c.key_at.ensures
          ∙ feed_pair write c.loop-at.state c.hash.new.state c.hash-in-Some.new.state (fed_text m) (g.V.Hash.hash_input v) rest c.hash.ensures c.hash-in-Some.ensures
          ∙ ap (λ l. fold write c.loop-at.state (flat_map F l)) (sym taken)
          ∙ c.loop-at.invariant.1,
    )

pub returns : goal.returns
returns g c =
    let write = g.H.Hasher.write in
    let last = key_of c.args.self.now c.loop-at.last in
    ap (λ l. fold write c.loop-at.state (flat_map (pair_input g.V.Hash.hash_input) l)) (sym (none_taken c.args.self.now last c.in_default.ensures.key)) ∙ c.loop-at.invariant.1

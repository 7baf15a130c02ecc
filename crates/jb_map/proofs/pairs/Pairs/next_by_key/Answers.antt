use Rattle.std.proofs.Common.{◌<◌, None, [], length, get_or, ap, sym, ◌∙◌, arith}
use Rattle.std.specs.Map.{keys_of}
use Rattle.std.proofs.lemmas.List.{length-map}
use Rattle.std.proofs.lemmas.List.Sums.{fold_more}
use Rattle.std.proofs.lemmas.Option.{slice_get-get_or}
use Rattle.jb_map.specs.bridge.NextByKey.{key_of, lesser_key}
use Rattle.jb_map.proofs.pairs.Pairs.next_by_key.Goals as goal

pub loop-index-preserved : goal.loop-index-preserved
loop-index-preserved g c =
    let es = c.args.self.now in
    let ks = keys_of es in
    let i = c.loop-index.index in
    let last = key_of es c.args.last in
    let q = get_or ks i [] in
    let within : i < length ks = omega (arith, c.loop-index-test.true, c.len-index-end.ensures.value, length-map es (λ e. e.0)) in (
      c.lesser-least.ensures.within,
      c.lesser-least.ensures.key q (slice_get-get_or ks i [] within)
          ∙ ap (λ b. lesser_key last b q) c.loop-index.invariant.1
          ∙ sym (fold_more (lesser_key last) None ks i [] within),
    )

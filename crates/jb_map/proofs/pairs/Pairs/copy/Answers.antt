use Rattle.std.proofs.Common.{ap, sym, ◌∙◌, Some, position, arith, ◌++◌, ◌∷◌, []}
use Rattle.std.specs.Str.{bytes_eq}
use Rattle.std.specs.Map.{keys_of}
use Rattle.jb_map.proofs.Entries.{pair_at, new_at_place, take_pair}
use Rattle.jb_map.proofs.pairs.Pairs.copy.Goals as goal

pub insert_new-requires : goal.insert_new-requires
insert_new-requires g c =
    let es = c.args.self.now in
    let i = c.loop-index.index in
    let is = pair_at es i c.in_ok-key.key c.in_ok-value.value (c.key_at.ensures ∙ ap Some (sym c.in_ok-key.ensures)) (c.value_at.ensures ∙ ap Some (sym c.in_ok-value.ensures)) in
    ap (λ l. position (bytes_eq c.in_ok-key.key) (keys_of l)) c.loop-index.invariant
    ∙ new_at_place es i (c.in_ok-key.key, c.in_ok-value.value) (omega arith) is c.len-index-end.ensures.distinct

pub loop-index-preserved : goal.loop-index-preserved
loop-index-preserved g c =
    let es = c.args.self.now in
    let i = c.loop-index.index in
    let is = pair_at es i c.in_ok-key.key c.in_ok-value.value (c.key_at.ensures ∙ ap Some (sym c.in_ok-key.ensures)) (c.value_at.ensures ∙ ap Some (sym c.in_ok-value.ensures)) in
    c.in_ok-insert_new.ensures.pairs ∙ ap (λ l. l ++ (c.in_ok-key.key, c.in_ok-value.value) ∷ []) c.loop-index.invariant ∙ take_pair es i (c.in_ok-key.key, c.in_ok-value.value) (omega arith) is

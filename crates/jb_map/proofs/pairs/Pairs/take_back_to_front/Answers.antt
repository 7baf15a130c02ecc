use Rattle.std.proofs.Common.{◌≡◌, List, ℕ, suc, [], ◌∷◌, ◌++◌, length, zip, reverse, sym, ap, ◌∙◌, arith}
use Rattle.std.proofs.lemmas.List.{reverse-append}
use Rattle.indexmap.proofs.ReorderLemmas.{zip_push}
use Rattle.jb_map.proofs.Inserted.{first_within, drop_first, inserted_more}
use Rattle.jb_map.proofs.pairs.Pairs.take_back_to_front.Goals as goal

pub loop-key-preserved : goal.loop-key-preserved
loop-key-preserved g c =
    let n = c.loop-key.invariant.0.0 in
    let all = reverse (zip c.args.texts.now.items c.args.values.now.items) in
    let left = zip c.pop_pair.new.texts.items c.pop_pair.new.values.items in
    let pair : List ℕ × g.row.V.Denot = (c.in-Some.key, c.in-Some.value) in
    let front = sym c.loop-key.invariant.0.2 ∙ ap reverse c.in-Some.ensures.pairs ∙ reverse-append left (pair ∷ []) in (
      (
        suc n,
        inserted_more c.args.self.now all c.loop-key.self n pair (reverse left) c.put.new.self c.loop-key.invariant.0.1 front c.in_default-put.ensures,
        sym (drop_first n all pair (reverse left) front),
      ),
      c.pop_pair.ensures.even,
    )

pub returns-in-Some-put-clause-refused : goal.returns-in-Some-put-clause-refused
returns-in-Some-put-clause-refused g c =
    let n = c.loop-key.invariant.0.0 in
    let all = reverse (zip c.args.texts.now.items c.args.values.now.items) in
    let ks = c.pop_pair.new.texts in
    let vs = c.pop_pair.new.values in
    let left = zip ks.items vs.items in
    let pair : List ℕ × g.row.V.Denot = (c.in-Some.key, c.in-Some.value) in
    let front = sym c.loop-key.invariant.0.2 ∙ ap reverse c.in-Some.ensures.pairs ∙ reverse-append left (pair ∷ []) in
    let even : length vs.items ≡ length ks.items = omega (arith, c.pop_pair.ensures.even, ks.ok.0, vs.ok.0) in
    let put_back =
    (λ j. zip (c.push_reserved.ensures.items j) (c.push_reserved-in-Some-put.ensures.items j))
    ∙ zip_push ks.items vs.items c.in-Some-put.key c.in-Some-put.value even ∙ ap (λ p. left ++ p ∷ []) c.in-Some-put.ensures.0 ∙ sym c.in-Some.ensures.pairs in (
      n,
      first_within n all pair (reverse left) front,
      c.in-Some-put.ensures.1 ∙ c.loop-key.invariant.0.1,
      ap reverse put_back ∙ c.loop-key.invariant.0.2,
    )

use Rattle.std.proofs.Common.{◌≡◌, ◌<◌, ◌+◌, length, zip, swap, vec_len, refl, sym, ap, subst, ◌∙◌, arith}
use Rattle.std_collections.proofs.Zip.{length-zip_even}
use Rattle.indexmap.proofs.ReorderLemmas.{zip-take}
use Rattle.jb_map.specs.Retained.{Keeps, Retains}
use Rattle.jb_map.proofs.Retention.{Sifts, columns_passed, columns_moved, sifted}
use Rattle.jb_map.proofs.columns.keep_pairs.Goals as goal
use Rattle.jb_map.proofs.columns.keep_pairs.Goals.{then-keep, else-keep}

pub loop-index-preserved : goal.loop-index-preserved
loop-index-preserved g c =
    let T = Keeps g.F.Fn c.args.keep in
    let start = zip c.args.texts.now.items c.args.values.now.items in
    let ks = c.loop-index.texts in
    let vs = c.loop-index.values in
    let n = c.loop-index.kept in
    let i = c.loop-index.index in
    let inv = c.loop-index.invariant in
    let within : i < length ks.items = omega arith in
    let even : length vs.items ≡ length ks.items = omega (arith, inv.even, ks.ok.0, vs.ok.0) in
    let says : T c.index.result.now c.index-in-loop-index.result.now c.keep.result = record { key = c.index.result; value = c.index-in-loop-index.result; shows_key = refl; shows_value = refl; says = c.keep.ensures } in
    let k = c.index.result.now in
    let v = c.index-in-loop-index.result.now in
    let now = zip c.if-keep.texts.items c.if-keep.values.items in
    elim c.if-keep.branch [
      | then-keep w ↦
          let moved = columns_moved T start ks.items vs.items n i k v even within c.index.ensures c.index-in-loop-index.ensures inv.sifts (subst (T k v) w.if-keep.true says) inv.within in
          let columns : now ≡ zip (swap ks.items n i) (swap vs.items n i) = λ j. zip ((ap (λ l. l.items) w.texts-is ∙ w.swap.ensures.items) j) ((ap (λ l. l.items) w.values-is ∙ w.swap-then-keep.ensures.items) j) in
          record {
            within = omega (arith, inv.within, w.kept-is);
            count = omega (arith, ap vec_len w.texts-is, w.swap.ensures.len, inv.count);
            even = omega (arith, ap vec_len w.texts-is, ap vec_len w.values-is, w.swap.ensures.len, w.swap-then-keep.ensures.len, inv.even);
            sifts = subst (λ m. Sifts T start now m (i + 1)) (sym w.kept-is) (subst (λ l. Sifts T start l (n + 1) (i + 1)) (sym columns) moved);
          }
      | else-keep w ↦
          let passed = columns_passed T start ks.items vs.items n i k v even within c.index.ensures c.index-in-loop-index.ensures inv.sifts (subst (T k v) w.if-keep.false says) in
          let columns : now ≡ zip ks.items vs.items = λ j. zip (ap (λ l. l.items) w.texts-is j) (ap (λ l. l.items) w.values-is j) in
          record {
            within = omega (arith, inv.within, w.kept-is);
            count = omega (arith, ap vec_len w.texts-is, inv.count);
            even = omega (arith, ap vec_len w.texts-is, ap vec_len w.values-is, inv.even);
            sifts = subst (λ m. Sifts T start now m (i + 1)) (sym w.kept-is) (subst (λ l. Sifts T start l n (i + 1)) (sym columns) passed);
          }
    ]

pub returns-clause-kept : goal.returns-clause-kept
returns-clause-kept g c =
    let ks = c.loop-index.texts in
    let vs = c.loop-index.values in
    let n = c.loop-index.kept in
    let inv = c.loop-index.invariant in
    let start = zip c.args.texts.now.items c.args.values.now.items in
    let even : length vs.items ≡ length ks.items = omega (arith, inv.even, ks.ok.0, vs.ok.0) in
    let all = sifted (Keeps g.F.Fn c.args.keep) start (zip ks.items vs.items) n c.loop-index.index (omega (arith, length-zip_even ks.items vs.items even, c.loop-index-test.false, c.len-index-end.ensures, inv.count, ks.ok.0)) inv.sifts in
    subst (Retains (Keeps g.F.Fn c.args.keep) start) (sym ((λ j. zip (c.truncate.ensures.items j) (c.truncate-2.ensures.items j)) ∙ zip-take n ks.items vs.items)) all

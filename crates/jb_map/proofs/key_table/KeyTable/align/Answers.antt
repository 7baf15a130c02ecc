use Rattle.std.proofs.Common.{◌≡◌, ◌<◌, ◌≤◌, ℕ, List, true, length, get_or, ap, ◌∙◌, arith}
use mathlib.Core.Path.{refl}
use borrow.Author.Count.{below_more}
use Rattle.std.specs.Str.{bytes_eq}
use Rattle.std.specs.List.{list_any}
use Rattle.std.specs.Cmp.Lexicographic.{nat_list_eq_equiv}
use Rattle.std.proofs.lemmas.Map.Keys.{apart_from_distinct}
use Rattle.jb_map.proofs.Aligned.{take_same, all_at}
use Rattle.jb_map.proofs.Positions.{same_at}
use Rattle.jb_map.proofs.key_table.KeyTable.align.Goals as goal

pub bring-requires-clause-there : goal.bring-requires-clause-there
bring-requires-clause-there c =
    let ks = c.args.texts.now in
    let i = c.loop-index.index in
    let k = c.index-texts-index.result in
    let within : i < length ks = omega arith in
    let covered = all_at (λ q. list_any (bytes_eq q) c.args.self.now ≡ true) ks i k within c.requires.covered in
    c.loop-index.invariant.2 c.as_str.result.now ∙ ap (λ q. list_any (bytes_eq q) c.args.self.now) (c.as_str.ensures ∙ c.index-texts-index.is) ∙ covered

pub bring-requires-clause-later : goal.bring-requires-clause-later
bring-requires-clause-later c j d below =
    let ks = c.args.texts.now in
    let i = c.loop-index.index in
    let k = c.index-texts-index.result in
    let within : i < length ks = omega arith in
    let at = same_at ks i k d within c.index-texts-index.is in
    let apart = apart_from_distinct bytes_eq ks j i d c.requires.distinct below within in
    (λ n. bytes_eq ((c.as_str.ensures ∙ at) n) (c.loop-index.invariant.1 j d below n)) ∙ nat_list_eq_equiv.symm (get_or ks i d) (get_or ks j d) ∙ apart

pub loop-index-preserved : goal.loop-index-preserved
loop-index-preserved c =
    let ks = c.args.texts.now in
    let i = c.loop-index.index in
    let k = c.index-texts-index.result in
    let new = c.bring.new.self in
    let within : i < length ks = omega arith in
    let placed = λ (d : List ℕ). c.bring.ensures.placed d ∙ c.as_str.ensures ∙ same_at ks i k d within c.index-texts-index.is in
    let more = below_more (λ n. (d : List ℕ) → get_or new n d ≡ get_or ks n d) i
    (λ j below d. c.bring.ensures.others j d below ∙ c.loop-index.invariant.1 j d below) placed in
    (omega (arith, c.bring.ensures.within), (λ j d below. more j below d), (λ q. c.bring.ensures.same_keys q ∙ c.loop-index.invariant.2 q))

pub returns : goal.returns
returns c =
    let ks = c.args.texts.now in
    let n = length ks in
    let le : n ≤ length c.loop-index.self = omega (arith, c.loop-index.invariant.0, c.loop-index-test.false) in
    c.cut.ensures ∙ take_same n c.loop-index.self ks le refl (λ k d below. c.loop-index.invariant.1 k d (omega (arith, c.loop-index-test.false)))

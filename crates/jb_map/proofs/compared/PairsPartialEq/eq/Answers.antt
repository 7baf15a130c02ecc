use Rattle.std.proofs.Common.{◌≡◌, ◌<◌, List, ℕ, true, length, get_or, ap, sym, subst, ◌∙◌, arith}
use borrow.Author.Count.{below_more}
use Rattle.std.specs.Option.{option_eq}
use Rattle.std.specs.Str.{bytes_eq}
use Rattle.std.specs.Map.{lookup, keys_of}
use Rattle.std.specs.Cmp.Lexicographic.{nat_list_eq_equiv}
use Rattle.std_collections.proofs.HashMapEq.{key_at, own_value}
use Rattle.jb_map.proofs.Entries.{pair_get}
use Rattle.jb_map.proofs.Same.{unequal_at, unequal_len, equal_from_keys}
use Rattle.jb_map.proofs.compared.PairsPartialEq.eq.Goals as goal

pub returns-then-len : goal.returns-then-len
returns-then-len g c =
    unequal_len g.V.PartialEq.eq c.args.self.now c.args.other.now (λ e. c.if-len.true (c.len-len.ensures.value ∙ e ∙ sym c.len.ensures.value))

pub returns-then-not-has : goal.returns-then-not-has
returns-then-not-has g c =
    let E = g.V.PartialEq.eq in
    let es = c.args.self.now in
    let fs = c.args.other.now in
    let i = c.loop-index.index in
    let k = c.key_at.result.now in
    let within : i < length es = omega (arith, c.loop-index-test.true, c.len-len.ensures.value) in
    let mine = own_value bytes_eq nat_list_eq_equiv es i k _ (pair_get es i k c.value_at.result.now c.key_at.ensures c.value_at.ensures) c.len-len.ensures.distinct within in
    let theirs = ap (λ t. lookup (bytes_eq t) fs) (sym c.as_str.ensures) in
    unequal_at E es fs k ((λ j. option_eq E (mine j) (theirs j)) ∙ sym c.has.ensures ∙ c.if-not-has.true)

pub loop-index-preserved : goal.loop-index-preserved
loop-index-preserved g c =
    let E = g.V.PartialEq.eq in
    let es = c.args.self.now in
    let fs = c.args.other.now in
    let i = c.loop-index.index in
    let k = c.key_at.result.now in
    let within : i < length es = omega (arith, c.loop-index-test.true, c.len-len.ensures.value) in
    let at = pair_get es i k c.value_at.result.now c.key_at.ensures c.value_at.ensures in
    let mine = own_value bytes_eq nat_list_eq_equiv es i k _ at c.len-len.ensures.distinct within in
    let theirs = ap (λ t. lookup (bytes_eq t) fs) (sym c.as_str.ensures) in
    let agree = λ (q : List ℕ). option_eq E (lookup (bytes_eq q) es) (lookup (bytes_eq q) fs) ≡ true in
    let here : agree k = (λ j. option_eq E (mine j) (theirs j)) ∙ sym c.has.ensures ∙ c.if-not-has.false in
    below_more (λ n. (d : List ℕ) → agree (get_or (keys_of es) n d)) i c.loop-index.invariant
    (λ d. subst agree (sym (key_at bytes_eq nat_list_eq_equiv es i k _ at d)) here)

pub returns : goal.returns
returns g c =
    equal_from_keys g.V.PartialEq.eq c.args.self.now c.args.other.now c.len-len.ensures.distinct c.len.ensures.distinct
    (omega (arith, c.if-len.false, c.len-len.ensures.value, c.len.ensures.value))
    (λ k p. c.loop-index.invariant k (omega (arith, c.loop-index-test.false, c.len-len.ensures.value)))

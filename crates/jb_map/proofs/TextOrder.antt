-- The order of texts by their bytes.
use Rattle.std.proofs.Common.{◌≡◌, ℕ, Bool, true, false, List, refl, sym, ap, ◌∙◌}
use mathlib.Core.Bool.{true≢false}
use Rattle.std.specs.Ordering.{nat_cmp, is_lt, is_eq, is_gt, ordering_reverse}
use Rattle.std.specs.declared.cmp.Ordering.{Ordering}
use Rattle.std.specs.declared.cmp.Ordering.TheVariants.{Less, Equal, Greater}
use Rattle.std.specs.Str.{bytes_eq}
use Rattle.std.specs.Cmp.Lexicographic.{slice_cmp, nat_list_cmp_total, nat_list_eq_equiv, texts_ties, bytes_decides}
use Rattle.jb_map.specs.ByKey.{is_below}

abbrev pub order : List ℕ → List ℕ → Ordering
order = slice_cmp nat_cmp

pub same_text : (a b : List ℕ) → bytes_eq a b ≡ true → a ≡ b
same_text a b = (bytes_decides a b).0

pub text_itself : (a : List ℕ) → bytes_eq a a ≡ true
text_itself = nat_list_eq_equiv.refl

below_is_less : (o : Ordering) → is_lt o ≡ true → o ≡ Less
below_is_less Less h = refl
below_is_less Equal h = absurd (true≢false (sym h))
below_is_less Greater h = absurd (true≢false (sym h))

less_from_below : (a b : List ℕ) → is_below a b ≡ true → order a b ≡ Less
less_from_below a b = below_is_less (order a b)

pub below_trans : (a b c : List ℕ) → is_below a b ≡ true → is_below b c ≡ true → is_below a c ≡ true
below_trans a b c h g = ap is_lt (nat_list_cmp_total.trans a b c (less_from_below a b h) (less_from_below b c g))

less_is_not_equal : (o : Ordering) → o ≡ Less → is_eq o ≡ false
less_is_not_equal o h = ap is_eq h

-- a text below another is not equal to it
pub below_differs : (a b : List ℕ) → is_below a b ≡ true → bytes_eq a b ≡ false
below_differs a b h = texts_ties a b ∙ less_is_not_equal (order a b) (less_from_below a b h)

-- a text that is neither equal to another nor above it is below it
below_from_order : (o p : Ordering) → o ≡ ordering_reverse p → is_eq o ≡ false → is_lt p ≡ false → is_lt o ≡ true
below_from_order Less p e n b = refl
below_from_order Equal p e n b = absurd (true≢false n)
below_from_order Greater Less e n b = absurd (true≢false b)
below_from_order Greater Equal e n b = absurd (true≢false (ap is_gt e))
below_from_order Greater Greater e n b = absurd (true≢false (ap is_gt e))

pub below_from_rest : (a b : List ℕ) → bytes_eq a b ≡ false → is_below b a ≡ false → is_below a b ≡ true
below_from_rest a b n h = below_from_order (order a b) (order b a) (nat_list_cmp_total.antisymm a b) (sym (texts_ties a b) ∙ n) h

-- no two texts are below each other
not_both : (o p : Ordering) → o ≡ ordering_reverse p → is_lt o ≡ true → is_lt p ≡ false
not_both o Less e h = absurd (true≢false (sym h ∙ ap is_lt e))
not_both o Equal e h = refl
not_both o Greater e h = refl

pub below_one_way : (a b : List ℕ) → is_below a b ≡ true → is_below b a ≡ false
below_one_way a b = not_both (order a b) (order b a) (nat_list_cmp_total.antisymm a b)

pub not_below_itself : (a : List ℕ) → is_below a a ≡ true → ⊥
not_below_itself a h = true≢false (sym (text_itself a) ∙ below_differs a a h)

-- two texts by their order
pub by_order : {P : Type 0} (a b : List ℕ) → (is_below a b ≡ true → P) → (bytes_eq a b ≡ true → P) → (is_below b a ≡ true → P) → P
by_order {P} a b less equal greater = cases (bytes_eq a b) refl (is_below b a) refl
  where
    cases : (e : Bool) → bytes_eq a b ≡ e → (g : Bool) → is_below b a ≡ g → P
    cases true e g h = equal e
    cases false e true h = greater h
    cases false e false h = less (below_from_rest a b e h)

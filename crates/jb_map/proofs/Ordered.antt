-- Pairs in the order of their keys.
use Rattle.std.proofs.Common.{◌≡◌, ℕ, Bool, true, false, cond, Some, None, Option, List, [], ◌∷◌, length, refl, sym, ap, ◌∙◌, ◌&&◌, suc}
use mathlib.Core.Bool.{true≢false}
use Rattle.std.specs.Str.{bytes_eq}
use Rattle.std.specs.List.{IsDistinct, AllByRecursion}
use Rattle.std.specs.Map.{keys_of, lookup}
use Rattle.std.specs.Option.{option_eq}
use Rattle.std.specs.Cmp.{first_so, second_so}
use Rattle.std.specs.Cmp.Lexicographic.{pointwise}
use Rattle.jb_map.specs.ByKey.{is_below, put_by_key, by_key, same_pair}
use Rattle.jb_map.proofs.TextOrder.{below_trans, below_differs, below_from_rest, same_text, text_itself, by_order}

-- P of each key
abbrev pub AllKeys : {X : Type 0} → (List ℕ → Type 0) → List (List ℕ × X) → Type 0
AllKeys P es = AllByRecursion P (keys_of es)

-- each key is above k
abbrev pub Above : {X : Type 0} → List ℕ → List (List ℕ × X) → Type 0
Above k es = AllKeys (λ q. is_below k q ≡ true) es

-- each key is above those before it
abbrev pub Ascending : {X : Type 0} → List (List ℕ × X) → Type 0
Ascending [] = Unit {0}
Ascending (e ∷ es) = Above e.0 es × Ascending es

pub AllKeys-mono : {X : Type 0} (P Q : List ℕ → Type 0) → ((k : List ℕ) → P k → Q k) → (es : List (List ℕ × X)) → AllKeys P es → AllKeys Q es
AllKeys-mono P Q f [] h = tt
AllKeys-mono P Q f (e ∷ es) h = (f e.0 h.0, AllKeys-mono P Q f es h.1)

module _ {X : Type 0} where
  length-put_by_key : (e : List ℕ × X) (xs : List (List ℕ × X)) → length (put_by_key e xs) ≡ suc (length xs)
  length-put_by_key e [] = refl
  length-put_by_key e (x ∷ xs) = by_test (is_below x.0 e.0) (length-put_by_key e xs)
    where
      by_test : (b : Bool) → length (put_by_key e xs) ≡ suc (length xs) → length (cond b (x ∷ put_by_key e xs) (e ∷ x ∷ xs)) ≡ suc (suc (length xs))
      by_test true h = ap suc h
      by_test false h = refl

  pub length-by_key : (es : List (List ℕ × X)) → length (by_key es) ≡ length es
  length-by_key [] = refl
  length-by_key (e ∷ es) = length-put_by_key e (by_key es) ∙ ap suc (length-by_key es)

  -- two look-ups that can't both hit may change places
  exchange : (p q : Bool) (x y : X) (r : Option X) → (p ≡ true → q ≡ true → ⊥) → cond p (Some x) (cond q (Some y) r) ≡ cond q (Some y) (cond p (Some x) r)
  exchange true true x y r f = absurd (f refl refl)
  exchange true false x y r f = refl
  exchange false q x y r f = refl

  lookup-put_by_key : (k : List ℕ) (e : List ℕ × X) (xs : List (List ℕ × X)) → lookup (bytes_eq k) (put_by_key e xs) ≡ lookup (bytes_eq k) (e ∷ xs)
  lookup-put_by_key k e [] = refl
  lookup-put_by_key k e (x ∷ xs) = by_test (is_below x.0 e.0) refl (lookup-put_by_key k e xs)
    where
      by_test : (b : Bool) → is_below x.0 e.0 ≡ b → lookup (bytes_eq k) (put_by_key e xs) ≡ lookup (bytes_eq k) (e ∷ xs)
          → lookup (bytes_eq k) (cond b (x ∷ put_by_key e xs) (e ∷ x ∷ xs)) ≡ lookup (bytes_eq k) (e ∷ x ∷ xs)
      by_test false is h = refl
      by_test true is h =
          ap (cond (bytes_eq k x.0) (Some x.1)) h
          ∙ exchange (bytes_eq k x.0) (bytes_eq k e.0) x.1 e.1 (lookup (bytes_eq k) xs)
          (λ p q. true≢false (sym q ∙ ap (λ t. bytes_eq t e.0) (same_text k x.0 p) ∙ below_differs x.0 e.0 is))

  -- a look-up does not see the order
  pub lookup-by_key : (k : List ℕ) (es : List (List ℕ × X)) → lookup (bytes_eq k) (by_key es) ≡ lookup (bytes_eq k) es
  lookup-by_key k [] = refl
  lookup-by_key k (e ∷ es) = lookup-put_by_key k e (by_key es) ∙ ap (cond (bytes_eq k e.0) (Some e.1)) (lookup-by_key k es)

  AllKeys-put : (P : List ℕ → Type 0) (e : List ℕ × X) (xs : List (List ℕ × X)) → P e.0 → AllKeys P xs → AllKeys P (put_by_key e xs)
  AllKeys-put P e [] p h = (p, tt)
  AllKeys-put P e (x ∷ xs) p h = by_test (is_below x.0 e.0) (AllKeys-put P e xs p h.1)
    where
      by_test : (b : Bool) → AllKeys P (put_by_key e xs) → AllKeys P (cond b (x ∷ put_by_key e xs) (e ∷ x ∷ xs))
      by_test true r = (h.0, r)
      by_test false r = (p, h)

  pub AllKeys-by_key : (P : List ℕ → Type 0) (es : List (List ℕ × X)) → AllKeys P es → AllKeys P (by_key es)
  AllKeys-by_key P [] h = tt
  AllKeys-by_key P (e ∷ es) h = AllKeys-put P e (by_key es) h.0 (AllKeys-by_key P es h.1)

  Ascending-put : (e : List ℕ × X) (xs : List (List ℕ × X)) → AllKeys (λ q. bytes_eq e.0 q ≡ false) xs → Ascending xs → Ascending (put_by_key e xs)
  Ascending-put e [] n h = (tt, tt)
  Ascending-put e (x ∷ xs) n h = by_test (is_below x.0 e.0) refl (Ascending-put e xs n.1 h.1)
    where
      by_test : (b : Bool) → is_below x.0 e.0 ≡ b → Ascending (put_by_key e xs) → Ascending (cond b (x ∷ put_by_key e xs) (e ∷ x ∷ xs))
      by_test true is r = (AllKeys-put (λ q. is_below x.0 q ≡ true) e xs is h.0, r)
      by_test false is r =
          let first = below_from_rest e.0 x.0 n.0 is in
          ((first, AllKeys-mono (λ q. is_below x.0 q ≡ true) (λ q. is_below e.0 q ≡ true) (λ q. below_trans e.0 x.0 q first) xs h.0), h)

  -- distinct keys in order ascend
  pub Ascending-by_key : (es : List (List ℕ × X)) → IsDistinct bytes_eq (keys_of es) → Ascending (by_key es)
  unfolding IsDistinct
  Ascending-by_key [] d = tt
  Ascending-by_key (e ∷ es) d = Ascending-put e (by_key es) (AllKeys-by_key (λ q. bytes_eq e.0 q ≡ false) es d.0) (Ascending-by_key es d.1)

  pub None-above : (k : List ℕ) (es : List (List ℕ × X)) → Above k es → lookup (bytes_eq k) es ≡ None
  None-above k [] h = refl
  None-above k (e ∷ es) h = ap (λ b. cond b (Some e.1) (lookup (bytes_eq k) es)) (below_differs k e.0 h.0) ∙ None-above k es h.1

  pub Some-first : (e : List ℕ × X) (es : List (List ℕ × X)) → lookup (bytes_eq e.0) (e ∷ es) ≡ Some e.1
  Some-first e es = ap (λ b. cond b (Some e.1) (lookup (bytes_eq e.0) es)) (text_itself e.0)

  pub skip_first : (k : List ℕ) (e : List ℕ × X) (es : List (List ℕ × X)) → bytes_eq k e.0 ≡ false → lookup (bytes_eq k) (e ∷ es) ≡ lookup (bytes_eq k) es
  skip_first k e es h = ap (λ b. cond b (Some e.1) (lookup (bytes_eq k) es)) h

  module _ (E : X → X → Bool) where
    -- maps that agree pair by pair agree at each key
    pub agree_from_pairs : (ls ms : List (List ℕ × X)) → pointwise (same_pair E) ls ms ≡ true → (k : List ℕ) → option_eq E (lookup (bytes_eq k) ls) (lookup (bytes_eq k) ms) ≡ true
    agree_from_pairs [] [] h k = refl
    agree_from_pairs [] (m ∷ ms) h k = absurd (true≢false (sym h))
    agree_from_pairs (l ∷ ls) [] h k = absurd (true≢false (sym h))
    agree_from_pairs (l ∷ ls) (m ∷ ms) h k =
        let here = first_so (same_pair E l m) (pointwise (same_pair E) ls ms) h in
        let keys = same_text l.0 m.0 (first_so (bytes_eq l.0 m.0) (E l.1 m.1) here) in
        ap (λ t. option_eq E (lookup (bytes_eq k) (l ∷ ls)) (cond (bytes_eq k t) (Some m.1) (lookup (bytes_eq k) ms))) (sym keys)
        ∙ by_test (bytes_eq k l.0) (second_so (bytes_eq l.0 m.0) (E l.1 m.1) here) (agree_from_pairs ls ms (second_so (same_pair E l m) (pointwise (same_pair E) ls ms) h) k)
      where
        by_test : (b : Bool) → E l.1 m.1 ≡ true → option_eq E (lookup (bytes_eq k) ls) (lookup (bytes_eq k) ms) ≡ true
            → option_eq E (cond b (Some l.1) (lookup (bytes_eq k) ls)) (cond b (Some m.1) (lookup (bytes_eq k) ms)) ≡ true
        by_test true v r = v
        by_test false v r = r

    abbrev Agree : List (List ℕ × X) → List (List ℕ × X) → List ℕ → Type 0
    Agree ls ms k = option_eq E (lookup (bytes_eq k) ls) (lookup (bytes_eq k) ms) ≡ true

    -- what is there in one alone is no agreement
    left_alone : (p q : Option X) (v : X) → p ≡ Some v → q ≡ None → option_eq E p q ≡ true → ⊥
    left_alone p q v a b h = true≢false (sym h ∙ (λ i. option_eq E (a i) (b i)))

    right_alone : (p q : Option X) (v : X) → p ≡ None → q ≡ Some v → option_eq E p q ≡ true → ⊥
    right_alone p q v a b h = true≢false (sym h ∙ (λ i. option_eq E (a i) (b i)))

    -- ascending pairs that agree at each key agree pair by pair
    pub pairs_from_agree : (ls ms : List (List ℕ × X)) → Ascending ls → Ascending ms → ((k : List ℕ) → Agree ls ms k) → pointwise (same_pair E) ls ms ≡ true
    pairs_from_agree [] [] a b f = refl
    pairs_from_agree [] (m ∷ ms) a b f = absurd (right_alone None _ m.1 refl (Some-first m ms) (f m.0))
    pairs_from_agree (l ∷ ls) [] a b f = absurd (left_alone _ None l.1 (Some-first l ls) refl (f l.0))
    pairs_from_agree (l ∷ ls) (m ∷ ms) a b f =
        by_order l.0 m.0
        (λ less. absurd (left_alone _ _ l.1 (Some-first l ls) (None-above l.0 (m ∷ ms) (less, AllKeys-mono (λ q. is_below m.0 q ≡ true) (λ q. is_below l.0 q ≡ true) (λ q. below_trans l.0 m.0 q less) ms b.0)) (f l.0)))
        (λ equal. heads equal (same_text l.0 m.0 equal) (pairs_from_agree ls ms a.1 b.1 (λ k. rest (same_text l.0 m.0 equal) k (bytes_eq k l.0) refl)))
        (λ more. absurd (right_alone _ _ m.1 (None-above m.0 (l ∷ ls) (more, AllKeys-mono (λ q. is_below l.0 q ≡ true) (λ q. is_below m.0 q ≡ true) (λ q. below_trans m.0 l.0 q more) ls a.0)) (Some-first m ms) (f m.0)))
      where
        heads : bytes_eq l.0 m.0 ≡ true → l.0 ≡ m.0 → pointwise (same_pair E) ls ms ≡ true → pointwise (same_pair E) (l ∷ ls) (m ∷ ms) ≡ true
        heads test key r =
            let found = ap (λ k. lookup (bytes_eq k) (m ∷ ms)) key ∙ Some-first m ms in
            let values = (λ i. option_eq E (sym (Some-first l ls) i) (sym found i)) ∙ f l.0 in
            λ i. (test i && values i) && r i

        rest : l.0 ≡ m.0 → (k : List ℕ) (t : Bool) → bytes_eq k l.0 ≡ t → Agree ls ms k
        rest key k true is =
            let at = same_text k l.0 is in
            let none_left = ap (λ q. lookup (bytes_eq q) ls) at ∙ None-above l.0 ls a.0 in
            let none_right = ap (λ q. lookup (bytes_eq q) ms) (at ∙ key) ∙ None-above m.0 ms b.0 in
            λ i. option_eq E (none_left i) (none_right i)
        rest key k false is =
            (λ i. option_eq E (sym (skip_first k l ls is) i) (sym (skip_first k m ms (ap (bytes_eq k) (sym key) ∙ is)) i)) ∙ f k

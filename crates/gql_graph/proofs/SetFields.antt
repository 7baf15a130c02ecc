-- The fields that a flood finds, and the marks that are taken off again.
use Rattle.std.proofs.Common.{◌≡◌, ◌⊎◌, inl, inr, ℕ, zero, suc, ◌+◌, ◌-◌, ◌<◌, ◌≤◌, Bool, true, false, cond, ◌&&◌, ◌==◌, Option, Some, None, List, [], ◌∷◌, length, set, refl, sym, ap, ◌∙◌, subst, arith}
use Rattle.std.specs.List.{Contains, slice_get, flat_map}
use Rattle.std.specs.Option.{option_map_or}
use Rattle.std.specs.Prelude.{nat_le}
use Rattle.std.proofs.lemmas.List.Elements.{Contains-append_left, Contains-append_right, Contains-append_cases}
use Rattle.std.proofs.lemmas.Bool.{eqb-true, leb-true, le-leb}
use Rattle.gql_graph.specs.Graph.{Graph}
use Rattle.gql_graph.specs.bridge.Graph.{IsReachedOver, IsFlooded}
use Rattle.gql_graph.specs.Cycles.{Reaches, at_once, along}
use Rattle.gql_graph.proofs.Flooded.{get-set_other, same_or_not, Contains-cons_cases, none_contained}
use Rattle.gql_graph.proofs.Walks.{lift, forget, from_node}
use Rattle.gql_graph.specs.bridge.Explored.{AreUnmarked, AreFields}
use Rattle.gql_graph.specs.bridge.Steps.{is_marked, field_at, fields_at, all_reset}

-- ---- lists

pub set_beyond : {A : Type 0} (xs : List A) (i : ℕ) (y : A) → slice_get xs i ≡ None → set xs i y ≡ xs
set_beyond [] i y is = refl
set_beyond (x ∷ xs) zero y is = absurd cc
set_beyond (x ∷ xs) (suc i) y is = ap (λ l. x ∷ l) (set_beyond xs i y is)

pub set_here : {A : Type 0} (xs : List A) (i : ℕ) (x y : A) → slice_get (set xs i y) i ≡ Some x → x ≡ y
set_here [] i x y is = absurd cc
set_here (z ∷ xs) zero x y is = let e : Some y ≡ Some x = is in cc
set_here (z ∷ xs) (suc i) x y is = set_here xs i x y is

pub got_within : {A : Type 0} (xs : List A) (i : ℕ) → i < length xs → (x : A) × (slice_get xs i ≡ Some x)
got_within [] i within = absurd (omega (arith, within))
got_within (z ∷ xs) zero within = (z, refl)
got_within (z ∷ xs) (suc i) within = got_within xs i (omega (arith, within))

pub got_contained : {A : Type 0} (xs : List A) (i : ℕ) (x : A) → slice_get xs i ≡ Some x → Contains xs x
got_contained [] i x is = absurd cc
got_contained (z ∷ xs) zero x is = let e : z ≡ x = (let h : Some z ≡ Some x = is in cc) in subst (Contains (z ∷ xs)) e (0, omega arith, refl)
got_contained (z ∷ xs) (suc i) x is = Contains-append_right (z ∷ []) xs x (got_contained xs i x is)

pub flat_has : {A B : Type 0} (f : A → List B) (xs : List A) (x : A) (y : B) → Contains xs x → Contains (f x) y → Contains (flat_map f xs) y
flat_has f [] x y c d = absurd (none_contained x c)
flat_has f (z ∷ xs) x y c d = elim (Contains-cons_cases z xs x c) [
  | inl e ↦ Contains-append_left (f z) (flat_map f xs) y (subst (λ u. Contains (f u) y) (sym e) d)
  | inr later ↦ Contains-append_right (f z) (flat_map f xs) y (flat_has f xs x y later d)
]

pub flat_from : {A B : Type 0} (f : A → List B) (xs : List A) (y : B) → Contains (flat_map f xs) y → (x : A) × Contains xs x × Contains (f x) y
flat_from f [] y c = absurd (none_contained y c)
flat_from f (z ∷ xs) y c = elim (Contains-append_cases (f z) (flat_map f xs) y c) [
  | inl here ↦ (z, (0, omega arith, refl), here)
  | inr later ↦ (let rest = flat_from f xs y later in (rest.0, Contains-append_right (z ∷ []) xs rest.0 rest.1, rest.2))
]

-- ---- marks

-- what is left of marks: each that is taken off is zero
pub reset_at : (states nodes : List ℕ) (v x : ℕ) → slice_get (all_reset states nodes) v ≡ Some x → (x ≡ 0) ⊎ ((slice_get states v ≡ Some x) × (Contains nodes v → ⊥))
reset_at states [] v x is = inr (is, none_contained v)
reset_at states (w ∷ ws) v x is = elim (reset_at (set states w 0) ws v x is) [
  | inl e ↦ inl e
  | inr p ↦ elim (same_or_not v w) [
    | inl e ↦ inl (set_here states w x 0 (ap (slice_get (set states w 0)) (sym e) ∙ p.0))
    | inr apart ↦ inr (sym (get-set_other states w v 0 apart) ∙ p.0, λ c. elim (Contains-cons_cases w ws v c) [ inl e ↦ apart (sym e) | inr later ↦ p.1 later ])
  ]
]

marked_as : (states : List ℕ) (v : ℕ) → is_marked states v ≡ true → slice_get states v ≡ Some 1
marked_as states v is = by_mark (slice_get states v) refl is
  where
    by_mark : (o : Option ℕ) → slice_get states v ≡ o → option_map_or (λ mark. mark == 1) o false ≡ true → slice_get states v ≡ Some 1
    by_mark None at is = absurd cc
    by_mark (Some x) at is = at ∙ ap Some (eqb-true x 1 is)

-- the field of a marked node
field_from : (base : ℕ) (states : List ℕ) (v a : ℕ) → Contains (field_at base states v) a → (slice_get states v ≡ Some 1) × (base + a ≡ v)
field_from base states v a c = by_test (is_marked states v) refl (nat_le base v) refl c
  where
    by_test : (t : Bool) → is_marked states v ≡ t → (u : Bool) → nat_le base v ≡ u → Contains (cond (t && u) ((v - base) ∷ []) []) a → (slice_get states v ≡ Some 1) × (base + a ≡ v)
    by_test false m u n c = absurd (none_contained a c)
    by_test true m false n c = absurd (none_contained a c)
    by_test true m true n c = (marked_as states v m, elim (Contains-cons_cases (v - base) [] a c) [ inl e ↦ (let low = leb-true base v n in omega (arith, e, low)) | inr later ↦ absurd (none_contained a later) ])

field_at_node : (base : ℕ) (states : List ℕ) (a : ℕ) → slice_get states (base + a) ≡ Some 1 → Contains (field_at base states (base + a)) a
field_at_node base states a is = subst (λ (l : List ℕ). Contains l a) (sym as_list) (subst (λ n. Contains (n ∷ []) a) (sym gap) (0, omega arith, refl))
  where
    gap : base + a - base ≡ a
    gap = omega arith

    behind : nat_le base (base + a) ≡ true
    behind = le-leb base (base + a) (omega arith)

    as_list : field_at base states (base + a) ≡ (base + a - base) ∷ []
    as_list = ap (λ o. cond (option_map_or (λ mark. mark == 1) o false && nat_le base (base + a)) ((base + a - base) ∷ []) []) is ∙ ap (λ t. cond t ((base + a - base) ∷ []) []) behind

-- a node that reaches one within the marks lies within them
pub reach_within : (g : Graph) (count : ℕ) {a b : ℕ} → length g ≤ count → Reaches g a b → b < count → a < count
reach_within g count fits at_once within = within
reach_within g count {a} {b} fits (along {b = c} edge rest) within = omega (arith, fits, from_node g a c edge)

module _ (g : Graph) (old new items told : List ℕ) (unmarked : AreUnmarked old) (flooded : IsFlooded g old new items 0 1 told) where
  -- a marked node is told and reached
  marked_told : (v : ℕ) → slice_get new v ≡ Some 1 → IsReachedOver g old 0 items v × Contains told v
  marked_told v is = elim (flooded.only v) [
    | inl e ↦ absurd (omega (arith, unmarked v 1 (sym e ∙ is)))
    | inr p ↦ (p.0, p.1)
  ]

  zero_at : (x : ℕ) → x < length old → slice_get old x ≡ Some 0
  zero_at x within = let got = got_within old x within in got.1 ∙ ap Some (unmarked x got.0 got.1)

  pub found : AreFields g (length old) items (fields_at (length g) new told)
  found = record {
    all = λ a within field.
        (let n = length g + a in
        let reached = flooded.reached n (field.0, field.1, lift g old 0 (λ x to from. zero_at x (reach_within g (length old) (omega (arith, within)) from within)) field.2) in
        flat_has (field_at (length g) new) told n a (marked_told n reached).1 (field_at_node (length g) new a reached));
    only = λ a c.
        (let at = flat_from (field_at (length g) new) told a c in
        let from = field_from (length g) new at.0 a at.2 in
        let reached = (marked_told at.0 from.0).0 in
        (reached.0, reached.1, subst (Reaches g reached.0) (sym from.1) (forget g old 0 reached.2)));
  }

  pub clean_again : AreUnmarked (all_reset new told)
  clean_again v x is = elim (reset_at new told v x is) [
    | inl e ↦ e
    | inr p ↦ elim (flooded.only v) [ inl e ↦ unmarked v x (sym e ∙ p.0) | inr q ↦ absurd (p.1 q.1) ]
  ]

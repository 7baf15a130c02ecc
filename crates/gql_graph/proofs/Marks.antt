-- What setting marks leaves.
use Rattle.std.proofs.Common.{◌≡◌, ◌≢◌, inl, inr, ℕ, Bool, true, false, cond, ◌==◌, Option, Some, None, List, [], ◌∷◌, set, refl, sym, ap, ◌∙◌, subst}
use Rattle.std.specs.List.{Contains, slice_get}
use Rattle.std.proofs.lemmas.Bool.{eqb-true, eq-eqb}
use Rattle.gql_graph.specs.Flooding.{has}
use Rattle.gql_graph.specs.bridge.Flooding.{marked, all_marked}
use Rattle.gql_graph.proofs.Flooded.{get-set_same, get-set_other, same_or_not, Contains-cons_cases, none_contained}

module _ (a b : ℕ) (apart : a ≢ b) where
  marked_here : (states : List ℕ) (v : ℕ) → slice_get states v ≡ Some a → slice_get (marked a b states v) v ≡ Some b
  marked_here states v is =
      ap (λ s. slice_get s v) (ap (λ o. cond (has a o) (set states v b) states) is ∙ ap (λ t. cond t (set states v b) states) (eq-eqb a a refl)) ∙ get-set_same states v a b is

  -- a node that does not have the old mark keeps its mark
  pub marked_other : (states : List ℕ) (v w : ℕ) → slice_get states w ≢ Some a → slice_get (marked a b states v) w ≡ slice_get states w
  marked_other states v w differs = by_mark (slice_get states v) refl
    where
      by_test : (x : ℕ) → slice_get states v ≡ Some x → (t : Bool) → (x == a) ≡ t → slice_get (cond t (set states v b) states) w ≡ slice_get states w
      by_test x is false test = refl
      by_test x is true test = elim (same_or_not w v) [
        | inl e ↦ absurd (differs (ap (slice_get states) e ∙ is ∙ ap Some (eqb-true x a test)))
        | inr other ↦ get-set_other states v w b other
      ]

      by_mark : (o : Option ℕ) → slice_get states v ≡ o → slice_get (cond (has a o) (set states v b) states) w ≡ slice_get states w
      by_mark None is = refl
      by_mark (Some x) is = by_test x is (x == a) refl

  pub all_marked_other : (vs states : List ℕ) (w : ℕ) → slice_get states w ≢ Some a → slice_get (all_marked a b states vs) w ≡ slice_get states w
  all_marked_other [] states w differs = refl
  all_marked_other (v ∷ vs) states w differs =
      let same = marked_other states v w differs in
      all_marked_other vs (marked a b states v) w (λ is. differs (sym same ∙ is)) ∙ same

  unmoved : (states : List ℕ) (v w : ℕ) → w ≢ v → slice_get (marked a b states v) w ≡ slice_get states w
  unmoved states v w other = by_test (has a (slice_get states v))
    where
      by_test : (t : Bool) → slice_get (cond t (set states v b) states) w ≡ slice_get states w
      by_test true = get-set_other states v w b other
      by_test false = refl

  -- a node among these that has the old mark gets the new one
  pub all_marked_at : (vs states : List ℕ) (w : ℕ) → Contains vs w → slice_get states w ≡ Some a → slice_get (all_marked a b states vs) w ≡ Some b
  all_marked_at [] states w c is = absurd (none_contained w c)
  all_marked_at (v ∷ vs) states w c is = elim (same_or_not w v) [
    | inl e ↦ (let now : slice_get (marked a b states v) w ≡ Some b = subst (λ u. slice_get (marked a b states v) u ≡ Some b) (sym e) (marked_here states v (ap (slice_get states) (sym e) ∙ is)) in
        all_marked_other vs (marked a b states v) w (λ was. apart (let h : Some a ≡ Some b = sym was ∙ now in cc)) ∙ now)
    | inr other ↦ elim (Contains-cons_cases v vs w c) [
      | inl e ↦ absurd (other (sym e))
      | inr later ↦ all_marked_at vs (marked a b states v) w later (unmoved states v w other ∙ is)
    ]
  ]

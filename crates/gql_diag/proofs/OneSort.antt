-- Two stable sorts of one list are one list.
use Rattle.std.proofs.Common.{◌≡◌, ℕ, suc, ◌<◌, ◌≤◌, Bool, true, false, not, cond, List, [], ◌∷◌, length, get_or, refl, sym, ◌∙◌, ap, ap₂, subst, arith}
use Rattle.std.specs.Cmp.{IsStrictWeakOrder, IsTotalOrder}
use Rattle.std.specs.List.{filter}
use Rattle.std.specs.List.Sorted.{ties}
use Rattle.std.specs.Ordering.{is_lt}
use Rattle.std.specs.declared.cmp.Ordering.{Ordering}
use Rattle.std.proofs.lemmas.List.Sorted.{sorted_far, ranks_by}
use Rattle.gql_diag_messages.specs.declared.diagnostic_data.DiagnosticData.{DiagnosticData}
use Rattle.gql_diag.specs.List.{IsStableSort}

-- what holds of each of a list
abbrev Each : {X : Type 0} → (X → Type 0) → List X → Type 0
Each P [] = Unit {0}
Each P (x ∷ xs) = P x × Each P xs

-- holds of the first that passes a test
first_kept : {X : Type 0} (p : X → Bool) (P : X → Type 0) (xs : List X) (y : X) (rest : List X) → Each P xs → y ∷ rest ≡ filter p xs → P y
first_kept p P [] y rest all h = absurd (let f : y ∷ rest ≡ [] = h in cc)
first_kept p P (x ∷ xs) y rest all h =
    elim (p x) as (λ b. y ∷ rest ≡ cond b (x ∷ filter p xs) (filter p xs) → P y) [
      | true ↦ λ g. let e : x ≡ y = cc in subst P e all.0
      | false ↦ λ g. first_kept p P xs y rest all.1 g
    ] h

module _ {X : Type 0} (lt : X → X → Bool) (o : IsStrictWeakOrder lt) where
  abbrev IsLeast : X → List X → Type 0
  IsLeast x xs = Each (λ y. lt y x ≡ false) xs

  abbrev Ascends : List X → Type 0
  Ascends [] = Unit {0}
  Ascends (x ∷ xs) = IsLeast x xs × Ascends xs

  least_of : (x : X) (xs : List X) → ((k : ℕ) → k < length xs → lt (get_or xs k x) x ≡ false) → IsLeast x xs
  least_of x [] h = tt
  least_of x (y ∷ ys) h = (h 0 (omega arith), least_of x ys (λ k p. h (suc k) (omega arith)))

  ascends_of : (xs : List X) → ((i j : ℕ) (d : X) → i ≤ j → j < length xs → lt (get_or xs j d) (get_or xs i d) ≡ false) → Ascends xs
  ascends_of [] h = tt
  ascends_of (x ∷ xs) h = (least_of x xs (λ k p. h 0 (suc k) x (omega arith) (omega arith)), ascends_of xs (λ i j d p q. h (suc i) (suc j) d (omega arith) (omega arith)))

  not_itself : (x : X) → lt x x ≡ false
  not_itself x = elim (lt x x) as (λ b. lt x x ≡ b → b ≡ false) [
    | true ↦ λ e. sym e ∙ o.one_way x x e
    | false ↦ λ e. refl
  ] refl

  tied : (x y : X) → lt x y ≡ false → lt y x ≡ false → ties lt x y ≡ true
  tied x y h g = rw (h, g)

  same_tails : (y z x : X) (ys zs : List X) → y ≡ z → filter (ties lt x) (y ∷ ys) ≡ filter (ties lt x) (z ∷ zs) → filter (ties lt x) ys ≡ filter (ties lt x) zs
  same_tails y z x ys zs e h =
      let g : filter (ties lt x) (y ∷ ys) ≡ filter (ties lt x) (y ∷ zs) = h ∙ ap (λ w. filter (ties lt x) (w ∷ zs)) (sym e) in
      elim (ties lt x y) as (λ b. cond b (y ∷ filter (ties lt x) ys) (filter (ties lt x) ys) ≡ cond b (y ∷ filter (ties lt x) zs) (filter (ties lt x) zs) → filter (ties lt x) ys ≡ filter (ties lt x) zs) [
        | true ↦ λ k. cc
        | false ↦ λ k. k
      ] g

  kept_itself : (z : X) (zs : List X) → filter (ties lt z) (z ∷ zs) ≡ z ∷ filter (ties lt z) zs
  kept_itself z zs = rw (tied z z (not_itself z) (not_itself z))

  same_heads : (y z : X) (ys zs : List X) → IsLeast y ys → IsLeast z zs → ((x : X) → filter (ties lt x) (y ∷ ys) ≡ filter (ties lt x) (z ∷ zs)) → y ≡ z
  same_heads y z ys zs u v h =
      let above = first_kept (ties lt y) (λ w. lt w z ≡ false) (z ∷ zs) y (filter (ties lt y) ys) (not_itself z, v) (sym (kept_itself y ys) ∙ h y) in
      let below = first_kept (ties lt z) (λ w. lt w y ≡ false) (y ∷ ys) z (filter (ties lt z) zs) (not_itself y, u) (sym (kept_itself z zs) ∙ sym (h z)) in
      let kept : filter (ties lt y) (z ∷ zs) ≡ z ∷ filter (ties lt y) zs = rw (tied y z above below) in
      let whole : y ∷ filter (ties lt y) ys ≡ z ∷ filter (ties lt y) zs = sym (kept_itself y ys) ∙ h y ∙ kept in
      cc

  same_lists : (ys zs : List X) → Ascends ys → Ascends zs → ((x : X) → filter (ties lt x) ys ≡ filter (ties lt x) zs) → ys ≡ zs
  same_lists [] [] u v h = refl
  same_lists [] (z ∷ zs) u v h = absurd (let f : [] ≡ z ∷ filter (ties lt z) zs = h z ∙ kept_itself z zs in cc)
  same_lists (y ∷ ys) [] u v h = absurd (let f : y ∷ filter (ties lt y) ys ≡ [] = sym (kept_itself y ys) ∙ h y in cc)
  same_lists (y ∷ ys) (z ∷ zs) u v h =
      let e = same_heads y z ys zs u.0 v.0 h in
      ap₂ (λ w ws. w ∷ ws) e (same_lists ys zs u.1 v.1 (λ x. same_tails y z x ys zs e (h x)))

pub one_stable_sort : (order : DiagnosticData → DiagnosticData → Ordering) → IsTotalOrder order → (items ys zs : List DiagnosticData)
    → IsStableSort order items ys → IsStableSort order items zs → ys ≡ zs
one_stable_sort order total items ys zs u v =
    let lt : DiagnosticData → DiagnosticData → Bool = λ x y. is_lt (order x y) in
    let o : IsStrictWeakOrder lt = ranks_by total (λ x. x) in
    same_lists lt o ys zs (ascends_of lt o ys (sorted_far lt o ys u.sorted)) (ascends_of lt o zs (sorted_far lt o zs v.sorted)) (λ x. u.stable x ∙ sym (v.stable x))

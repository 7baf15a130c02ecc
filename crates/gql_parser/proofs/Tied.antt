-- Two sorted lists of the same things tie place by place.
use Rattle.std.proofs.Common.{◌≡◌, ℕ, suc, ◌+◌, ◌<◌, ◌≤◌, Bool, true, false, cond, List, [], ◌∷◌, length, get_or, sum_by, refl, sym, ◌∙◌, ap, arith}
use Rattle.std.specs.Cmp.{IsStrictWeakOrder, IsTotalOrder}
use Rattle.std.specs.List.{AllZip}
use Rattle.std.specs.List.Sorted.{IsPermutation, IsSorted}
use Rattle.std.specs.Ordering.{is_lt, ordering_reverse}
use Rattle.std.specs.declared.cmp.Ordering.{Ordering}
use Rattle.std.specs.declared.cmp.Ordering.TheVariants.{Less, Equal, Greater}
use Rattle.std.proofs.lemmas.Cmp.{nat_cmp_total, nat_list_cmp_total, lists_total, on_total, then_total}
use Rattle.std.proofs.lemmas.List.Sums.{sum_by-cons}
use Rattle.std.proofs.lemmas.List.Sorted.{length_permutation, ranks_by, sorted_far, sum_by-IsPermutation}
use Rattle.gql_diag.specs.Order.{list_order, names_of, other_of, place_key, place_order, row_of}
use Rattle.gql_diag_messages.specs.declared.diagnostic_data.DiagnosticData.{DiagnosticData}

module _ {X : Type 0} (lt : X → X → Bool) (o : IsStrictWeakOrder lt) where
  abbrev IsLeast : X → List X → Type 0
  IsLeast x [] = Unit {0}
  IsLeast x (y ∷ ys) = (lt y x ≡ false) × IsLeast x ys

  abbrev Ascends : List X → Type 0
  Ascends [] = Unit {0}
  Ascends (x ∷ xs) = IsLeast x xs × Ascends xs

  least_of : (x : X) (xs : List X) → ((k : ℕ) → k < length xs → lt (get_or xs k x) x ≡ false) → IsLeast x xs
  least_of x [] h = tt
  least_of x (y ∷ ys) h = (h 0 (omega arith), least_of x ys (λ k p. h (suc k) (omega arith)))

  ascends_of : (xs : List X) → ((i j : ℕ) (d : X) → i ≤ j → j < length xs → lt (get_or xs j d) (get_or xs i d) ≡ false) → Ascends xs
  ascends_of [] h = tt
  ascends_of (x ∷ xs) h = (least_of x xs (λ k p. h 0 (suc k) x (omega arith) (omega arith)), ascends_of xs (λ i j d p q. h (suc i) (suc j) d (omega arith) (omega arith)))

  not_itself : (x : X) → lt x x ≡ false
  not_itself x = elim (lt x x) as (λ b. lt x x ≡ b → b ≡ false) [
    | true ↦ λ e. sym e ∙ o.one_way x x e
    | false ↦ λ e. refl
  ] refl

  -- how many are below something
  abbrev below : X → List X → ℕ
  below x xs = sum_by (λ (y : X). cond (lt y x) 1 0) xs

  none_below : (x : X) (xs : List X) → IsLeast x xs → below x xs ≡ 0
  none_below x [] least = refl
  none_below x (y ∷ ys) least = sum_by-cons (λ (z : X). cond (lt z x) 1 0) y ys ∙ (λ i. cond (least.0 i) 1 0 + none_below x ys least.1 i)

  no_higher : (y z : X) (ys zs : List X) → IsLeast z zs → ((x : X) → below x (y ∷ ys) ≡ below x (z ∷ zs)) → lt y z ≡ false
  no_higher y z ys zs least same = by_test (lt y z) refl
    where
      by_test : (b : Bool) → lt y z ≡ b → b ≡ false
      by_test false is = refl
      by_test true is =
          let some : below z (y ∷ ys) ≡ 1 + below z ys = sum_by-cons (λ (w : X). cond (lt w z) 1 0) y ys ∙ ap (λ (b : Bool). cond b 1 0 + below z ys) is in
          let none : below z (z ∷ zs) ≡ 0 = none_below z (z ∷ zs) (not_itself z, least) in
          absurd (omega (arith, some, none, same z))

  alike : (y z x : X) → lt y z ≡ false → lt z y ≡ false → lt y x ≡ lt z x
  alike y z x h g = by_tests (lt y x) (lt z x) refl refl
    where
      by_tests : (a b : Bool) → lt y x ≡ a → lt z x ≡ b → a ≡ b
      by_tests true true e f = refl
      by_tests false false e f = refl
      by_tests true false e f = sym e ∙ o.chain y z x h f
      by_tests false true e f = sym (o.chain z y x g e) ∙ f

  abbrev Tie : X → X → Type 0
  Tie y z = (lt y z ≡ false) × (lt z y ≡ false)

  rest_same : (y z : X) (ys zs : List X) → Tie y z → ((x : X) → below x (y ∷ ys) ≡ below x (z ∷ zs)) → (x : X) → below x ys ≡ below x zs
  rest_same y z ys zs tie same x =
      omega (arith, same x, sum_by-cons (λ (w : X). cond (lt w x) 1 0) y ys, sum_by-cons (λ (w : X). cond (lt w x) 1 0) z zs, ap {B = ℕ} (λ (b : Bool). cond b 1 0) (alike y z x tie.0 tie.1))

  all_tie : (ys zs : List X) → length ys ≡ length zs → Ascends ys → Ascends zs → ((x : X) → below x ys ≡ below x zs) → AllZip Tie ys zs
  all_tie [] [] count u v same = tt
  all_tie [] (z ∷ zs) count u v same = absurd (omega (arith, count))
  all_tie (y ∷ ys) [] count u v same = absurd (omega (arith, count))
  all_tie (y ∷ ys) (z ∷ zs) count u v same =
      let tie : Tie y z = (no_higher y z ys zs v.0 same, no_higher z y zs ys u.0 (λ x. sym (same x))) in
      (tie, all_tie ys zs (omega (arith, count)) u.1 v.1 (rest_same y z ys zs tie same))

module _ {X : Type 0} (order : X → X → Ordering) (total : IsTotalOrder order) where
  equal_of : (x y : X) → is_lt (order x y) ≡ false → is_lt (order y x) ≡ false → order x y ≡ Equal
  equal_of x y h g = by_orders (order x y) (order y x) (total.antisymm x y) h g
    where
      by_orders : (a b : Ordering) → a ≡ ordering_reverse b → is_lt a ≡ false → is_lt b ≡ false → a ≡ Equal
      by_orders a Less e h g = let f : true ≡ false = g in absurd cc
      by_orders a Equal e h g = e
      by_orders a Greater e h g = let f : is_lt Less ≡ false = sym (ap is_lt e) ∙ h in absurd cc

  all_equal : (ys zs : List X) → AllZip (λ (y z : X). (is_lt (order y z) ≡ false) × (is_lt (order z y) ≡ false)) ys zs → AllZip (λ (y z : X). order y z ≡ Equal) ys zs
  all_equal [] [] all = tt
  all_equal [] (z ∷ zs) all = absurd all
  all_equal (y ∷ ys) [] all = absurd all
  all_equal (y ∷ ys) (z ∷ zs) all = (equal_of y z all.0.0 all.0.1, all_equal ys zs all.1)

  same_places : (ys zs : List X) → IsPermutation ys zs → IsSorted order ys → IsSorted order zs → AllZip (λ (y z : X). order y z ≡ Equal) ys zs
  same_places ys zs p u v =
      let lt : X → X → Bool = λ x y. is_lt (order x y) in
      let o : IsStrictWeakOrder lt = ranks_by total (λ x. x) in
      all_equal ys zs (all_tie lt o ys zs (sym (length_permutation ys zs p)) (ascends_of lt o ys (sorted_far lt o ys u)) (ascends_of lt o zs (sorted_far lt o zs v))
      (λ x. sym (sum_by-IsPermutation (λ (y : X). cond (lt y x) 1 0) ys zs p)))

list_order_total : IsTotalOrder list_order
list_order_total =
    then_total (on_total (λ item. item.location) places_total)
    (on_total (λ item. item.details) (then_total (on_total row_of nat_cmp_total) (then_total (on_total names_of (lists_total nat_list_cmp_total)) (on_total other_of places_total))))
  where
    places_total : IsTotalOrder place_order
    places_total = on_total place_key nat_list_cmp_total

-- and so do two lists of the same diagnostics, in the order of lists
pub same_listing : (ys zs : List DiagnosticData) → IsPermutation ys zs → IsSorted list_order ys → IsSorted list_order zs → AllZip (λ y z. list_order y z ≡ Equal) ys zs
same_listing ys zs p u v = same_places list_order list_order_total ys zs p u v

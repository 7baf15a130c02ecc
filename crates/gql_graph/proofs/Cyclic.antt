-- Nodes on cycles, by the parts of a graph.
use Rattle.std.proofs.Common.{◌≡◌, ◌⊎◌, inl, inr, ℕ, zero, suc, ◌+◌, ◌<◌, Bool, true, false, ◌||◌, Option, Some, None, List, [], ◌∷◌, ◌++◌, length, replicate, take, drop, refl, sym, ap, ◌∙◌, arith}
use Rattle.std.specs.List.{Contains, slice_get, list_any}
use Rattle.std.proofs.lemmas.Bool.{eqb-true, eq-eqb}
use Rattle.std.proofs.lemmas.List.Elements.{Contains-append_right}
use Rattle.std.proofs.Math.Seq.{take-append_seam}
use Rattle.std.proofs.lemmas.Option.{slice_get_within}
use Rattle.gql_graph.specs.Cycles.{at_once, along, IsOnCycle, AreMarked}
use Rattle.gql_graph.specs.bridge.Cycles.{IsPartitioned, HasPart, Told, in_part, shares_part}
use Rattle.gql_graph.specs.Flooding.{has}
use Rattle.gql_graph.specs.Graph.{Graph, row}
use Rattle.gql_graph.proofs.Flooded.{Contains-cons_cases, none_contained}

-- ---- tests of lists
pub any_of : {X : Type 0} (test : X → Bool) (xs : List X) → list_any test xs ≡ true → (x : X) × Contains xs x × (test x ≡ true)
any_of {X = X} test [] holds = absurd cc
any_of {X = X} test (x ∷ xs) holds = by_test (test x) refl holds (any_of test xs)
  where
    by_test : (b : Bool) → test x ≡ b → (b || list_any test xs) ≡ true → (list_any test xs ≡ true → (y : X) × Contains xs y × (test y ≡ true))
        → (y : X) × Contains (x ∷ xs) y × (test y ≡ true)
    by_test true is holds later = (x, (0, omega arith, refl), is)
    by_test false is holds later = let found = later holds in (found.0, Contains-append_right (x ∷ []) xs found.0 found.1, found.2)

pub any_yes : {X : Type 0} (test : X → Bool) (xs : List X) (x : X) → Contains xs x → test x ≡ true → list_any test xs ≡ true
any_yes {X = X} test [] x c is = absurd (none_contained x c)
any_yes {X = X} test (y ∷ xs) x c is = by_cases (Contains-cons_cases y xs x c) (any_yes test xs x)
  where
    or_true : (b : Bool) → (b || true) ≡ true
    or_true true = refl
    or_true false = refl

    by_cases : (y ≡ x) ⊎ Contains xs x → (Contains xs x → test x ≡ true → list_any test xs ≡ true) → (test y || list_any test xs) ≡ true
    by_cases (inl e) later = ap (λ b. b || list_any test xs) (ap test e ∙ is)
    by_cases (inr more) later = ap (λ b. test y || b) (later more is) ∙ or_true (test y)

-- ---- marks
pub has_is : (mark : ℕ) (o : Option ℕ) → has mark o ≡ true → o ≡ Some mark
has_is mark None holds = absurd cc
has_is mark (Some found) holds = ap Some (eqb-true found mark holds)

pub is_has : (mark : ℕ) (o : Option ℕ) → o ≡ Some mark → has mark o ≡ true
is_has mark o is = ap (has mark) is ∙ eq-eqb mark mark refl

module _ (g : Graph) (parts : List ℕ) (whole : IsPartitioned g parts) where
  pub shares_is : (v : ℕ) → HasPart parts v → shares_part parts v (row g v) ≡ true → IsOnCycle g v
  shares_is v part holds =
      let k = part.0 in
      let here : list_any (λ w. has (k + 2) (slice_get parts w)) (row g v) ≡ true = ap (in_part parts (row g v)) (sym part.1) ∙ holds in
      let found = any_of (λ w. has (k + 2) (slice_get parts w)) (row g v) here in
      (found.0, found.1, (whole.same v found.0 k part.1 (has_is (k + 2) (slice_get parts found.0) found.2)).1)

  pub is_shared : (v : ℕ) → HasPart parts v → IsOnCycle g v → shares_part parts v (row g v) ≡ true
  is_shared v part cycle =
      let k = part.0 in
      let w = cycle.0 in
      let at : slice_get parts w ≡ Some (k + 2) = whole.whole v w k part.1 (along cycle.1 at_once, cycle.2) in
      ap (in_part parts (row g v)) part.1 ∙ any_yes (λ w. has (k + 2) (slice_get parts w)) (row g v) w cycle.1 (is_has (k + 2) (slice_get parts w) at)

-- ---- lists that grow by one

pub marked_cycles : (g : Graph) (parts : List ℕ) (marks : List Bool) → IsPartitioned g parts → ((v : ℕ) → v < length g → HasPart parts v)
    → Told (λ v. shares_part parts v (row g v)) marks (length g) → AreMarked (IsOnCycle g) (length g) marks
marked_cycles g parts marks whole all told = record {
  as_many = told.as_many;
  marked = λ v within cycle. told.each v within ∙ ap Some (is_shared g parts whole v (all v within) cycle);
  only = λ v is.
      let within : v < length g = omega (arith, slice_get_within marks v true is, told.as_many) in
      shares_is g parts whole v (all v within) (let h : Some (shares_part parts v (row g v)) ≡ Some true = sym (told.each v within) ∙ is in cc);
}

-- ---- at the start no node has a part
pub zeros : (count u y : ℕ) → slice_get (replicate count 0) u ≡ Some y → y ≡ 0
zeros zero u y is = absurd cc
zeros (suc count) zero y is = cc
zeros (suc count) (suc u) y is = zeros count u y is

-- a list that was written over whole
pub written : (n : ℕ) (xs ys : List ℕ) → n ≡ length xs → take n (xs ++ drop (length xs) ys) ≡ xs
written n xs ys is = ap (λ k. take k (xs ++ drop (length xs) ys)) is ∙ take-append_seam xs (drop (length xs) ys)

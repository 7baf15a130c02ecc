-- The numbers of places, noted field by field.
use Rattle.std.proofs.Common.{◌≡◌, ◌≢◌, ◌⊎◌, inl, inr, ℕ, ◌<◌, Bool, true, false, cond, ◌&&◌, ◌==◌, Some, List, [], ◌∷◌, ◌++◌, length, sym, ap, ◌∙◌, arith, length-append}
use Rattle.std.specs.Bool.{beq}
use Rattle.std.specs.List.{slice_get, list_any}
use Rattle.std.proofs.lemmas.Bool.{eqb-true}
use Rattle.std.proofs.lemmas.Option.{slice_get_within}
use Rattle.gql_graph.proofs.Flooded.{same_or_not}
use Rattle.gql_rules_merging.proofs.ClassGrowth.{got_before, got_last}
use Rattle.gql_rules_merging.proofs.Truths.{both_true, beq-true}
use Rattle.gql_rules_merging.specs.bridge.Places.{is_place, inserted, IsNumberOf}
use Rattle.gql_rules_merging.specs.declared.places.Place.{Place}

-- each number so far is that of its field's place
abbrev pub AreNumbered : (ℕ → Place) → List Place → List ℕ → Type 0
AreNumbered at places numbers = (a k : ℕ) → slice_get numbers a ≡ Some k → slice_get places k ≡ Some (at a)

abbrev placed : ℕ → ℕ → Bool → Place
placed key parent mixed = record { key = key; parent = parent; is_mixed = mixed }

place_is : (p q : Place) → is_place p q ≡ true → q ≡ p
place_is p q is =
    let parts = both_true (p.key == q.key) ((p.parent == q.parent) && beq p.is_mixed q.is_mixed) is in
    let rest = both_true (p.parent == q.parent) (beq p.is_mixed q.is_mixed) parts.1 in
    ap (λ n. placed n q.parent q.is_mixed) (sym (eqb-true p.key q.key parts.0))
    ∙ ap (λ n. placed p.key n q.is_mixed) (sym (eqb-true p.parent q.parent rest.0))
    ∙ ap (placed p.key p.parent) (sym (beq-true p.is_mixed q.is_mixed rest.1))

-- a place keeps its number
kept : (places : List Place) (p q : Place) (k : ℕ) → slice_get places k ≡ Some q → slice_get (inserted places p) k ≡ Some q
kept places p q k at = by_test (list_any (is_place p) places)
  where
    by_test : (t : Bool) → slice_get (cond t places (places ++ p ∷ [])) k ≡ Some q
    by_test true = at
    by_test false = got_before places (p ∷ []) k (slice_get_within places k q at) ∙ at

pub next_numbered : (at : ℕ → Place) (places : List Place) (numbers : List ℕ) (number : ℕ) → AreNumbered at places numbers
    → IsNumberOf (inserted places (at (length numbers))) (at (length numbers)) number
    → AreNumbered at (inserted places (at (length numbers))) (numbers ++ number ∷ [])
next_numbered at places numbers number before found a k is = by_place (same_or_not a (length numbers))
  where
    by_place : (a ≡ length numbers) ⊎ (a ≢ length numbers) → slice_get (inserted places (at (length numbers))) k ≡ Some (at a)
    by_place (inl e) =
        let same : number ≡ k = (let h : Some number ≡ Some k = sym (ap (slice_get (numbers ++ number ∷ [])) e ∙ got_last numbers number) ∙ is in cc) in
        ap (slice_get (inserted places (at (length numbers)))) (sym same) ∙ found.1 ∙ ap Some (place_is (at (length numbers)) found.0 found.2) ∙ ap (λ n. Some (at n)) (sym e)
    by_place (inr other) =
        let within : a < length numbers = omega (arith, other, slice_get_within (numbers ++ number ∷ []) a k is, length-append numbers (number ∷ [])) in
        kept places (at (length numbers)) (at a) k (before a k (sym (got_before numbers (number ∷ []) a within) ∙ is))

-- How much there is of an answer, by which going down through its lists ends.
use Rattle.std.proofs.Common.{arith, ◌≡◌, ℕ, ◌+◌, ◌<◌, List, [], ◌∷◌, ◌++◌, map, Result, refl, sym, ap, ◌∙◌}
use Rattle.gql_resolvers.specs.Resolved.{Meaning, Meanings, gives_leaf, gives_object, gives_list, gives_skip, fails_with, no_answer, answer_then}
use Rattle.gql_resolvers.specs.Meaning.{item_by, meanings_by}
use Rattle.gql_resolvers.specs.declared.resolve_error.FieldError.{FieldError}
use Rattle.gql_resolvers.specs.declared.resolved_value.ResolvedValue.{ResolvedValue}
use Rattle.gql_exec.specs.Mapped.{mapped, all_mapped}

abbrev mutual
  pub weight : {X : Type 0} → Meaning X → ℕ
  weight (gives_leaf v) = 0
  weight (gives_object x) = 0
  weight (gives_list ms) = 1 + weights ms
  weight gives_skip = 0
  weight (fails_with text) = 0

  pub weights : {X : Type 0} → Meanings X → ℕ
  weights no_answer = 0
  weights (answer_then m ms) = 2 + weight m + weights ms

-- that of answers one by one
abbrev pub total : {X : Type 0} → List (Meaning X) → ℕ
total [] = 0
total (m ∷ ms) = 2 + weight m + total ms

total-front : {X : Type 0} (xs ys : List (Meaning X)) → total (xs ++ ys) ≡ total xs + total ys
total-front [] ys = omega arith
total-front (x ∷ xs) ys = omega (arith, total-front xs ys)

module _ {X Y : Type 0} (stands : X → Y) where
  mutual
    weight-mapped : (m : Meaning X) → weight (mapped stands m) ≡ weight m
    weight-mapped (gives_leaf v) = refl
    weight-mapped (gives_object x) = refl
    weight-mapped (gives_list ms) = ap (λ n. 1 + n) (weights-mapped ms)
    weight-mapped gives_skip = refl
    weight-mapped (fails_with text) = refl

    weights-mapped : (ms : Meanings X) → weights (all_mapped stands ms) ≡ weights ms
    weights-mapped no_answer = refl
    weights-mapped (answer_then m ms) = omega (arith, weight-mapped m, weights-mapped ms)

module _ {O X Y : Type 0} (sees : O → X) (stands : X → Y) where
  -- what an item means, whose objects stand as others
  abbrev pub told : Result (ResolvedValue O) FieldError → Meaning Y
  told r = mapped stands (item_by sees r)

  total-told : (items : List (Result (ResolvedValue O) FieldError)) → total (map told items) ≡ weights (meanings_by sees items)
  total-told [] = refl
  total-told (r ∷ rs) = omega (arith, weight-mapped stands (item_by sees r), total-told rs)

  -- an item of a list weighs less than the list
  pub item-lower : (made : List (Meaning Y)) (r : Result (ResolvedValue O) FieldError) (left rest all : List (Result (ResolvedValue O) FieldError)) → left ≡ r ∷ rest
      → made ++ map told left ≡ map told all → 1 + weight (item_by sees r) < weights (meanings_by sees all)
  item-lower made r left rest all is so_far =
      let whole : total (made ++ map told (r ∷ rest)) ≡ weights (meanings_by sees all) =
      ap (λ l. total (made ++ map told l)) (sym is) ∙ ap total so_far ∙ total-told all in
      let parts : total (made ++ map told (r ∷ rest)) ≡ total made + (2 + weight (told r) + total (map told rest)) = total-front made (map told (r ∷ rest)) in
      omega (arith, whole, parts, weight-mapped stands (item_by sees r))

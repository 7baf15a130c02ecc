-- What lists of fields weigh.
use Rattle.std.proofs.Common.{arith, ◌≡◌, ℕ, zero, suc, ◌+◌, ◌≤◌, List, [], ◌∷◌, ◌++◌, map, refl, ap, ◌∙◌}
use Rattle.std.specs.List.{flat_map}
use Rattle.gql_document_types.specs.declared.fragment.Fragment.{Fragment}
use Rattle.gql_document_types.specs.declared.selection.Field.{Field}
use Rattle.gql_document_types.specs.declared.selection.Selection.{Selection}
use Rattle.gql_collect.specs.Sizes.{size, sets_size}
use Rattle.gql_collect.specs.Standing.{fields_in, fields_in_all, fields_in_fragments, weighed}
use Rattle.gql_collect.specs.bridge.Room.{set_below, fields_down, fields_down_fragments}

module _ (w : Field → ℕ) where
  pub weighed-append : (xs ys : List Field) → weighed w (xs ++ ys) ≡ weighed w xs + weighed w ys
  weighed-append [] ys = omega arith
  weighed-append (x ∷ xs) ys = omega (arith, weighed-append xs ys)

  pub weighed-sum : (v : Field → ℕ) (xs : List Field) → weighed (λ x. v x + w x) xs ≡ weighed v xs + weighed w xs
  weighed-sum v [] = omega arith
  weighed-sum v (x ∷ xs) = omega (arith, weighed-sum v xs)

  pub weighed-flat : (g : Field → List Field) (xs : List Field) → weighed w (flat_map g xs) ≡ weighed (λ x. weighed w (g x)) xs
  weighed-flat g [] = refl
  weighed-flat g (x ∷ xs) = weighed-append (g x) (flat_map g xs) ∙ ap (λ n. weighed w (g x) + n) (weighed-flat g xs)

pub weighed-most : (v w : Field → ℕ) → ((x : Field) → v x ≤ w x) → (xs : List Field) → weighed v xs ≤ weighed w xs
weighed-most v w most [] = omega arith
weighed-most v w most (x ∷ xs) = omega (arith, most x, weighed-most v w most xs)

weighed-same : (v w : Field → ℕ) → ((x : Field) → v x ≡ w x) → (xs : List Field) → weighed v xs ≡ weighed w xs
weighed-same v w same [] = refl
weighed-same v w same (x ∷ xs) = omega (arith, same x, weighed-same v w same xs)

-- what the fields of the set below a field weigh
abbrev pub inner : (Field → ℕ) → Field → ℕ
inner w field = weighed w (fields_in (set_below field))

-- one level more: the fields that stand in a set, and those of the sets below the others
pub down-level : (w : Field → ℕ) (n : ℕ) (xs : List Selection)
    → weighed w (fields_down (suc n) xs) ≡ weighed w (fields_in xs) + weighed (inner w) (fields_down n xs)
down-level w zero xs =
    let flat : weighed w (fields_down 1 xs) ≡ weighed (λ x. w x + 0) (fields_in xs) = weighed-flat w (λ x. x ∷ []) (fields_in xs) in
    omega (arith, flat, weighed-same (λ x. w x + 0) w (λ x. omega arith) (fields_in xs))
down-level w (suc n) xs =
    let below : Field → List Field = λ x. x ∷ fields_down (suc n) (set_below x) in
    let less : Field → List Field = λ x. x ∷ fields_down n (set_below x) in
    let flat : weighed w (fields_down (suc (suc n)) xs) ≡ weighed (λ x. weighed w (below x)) (fields_in xs) = weighed-flat w below (fields_in xs) in
    let same : weighed (λ x. weighed w (below x)) (fields_in xs) ≡ weighed (λ x. w x + weighed (inner w) (less x)) (fields_in xs) =
    weighed-same (λ x. weighed w (below x)) (λ x. w x + weighed (inner w) (less x)) (λ x. omega (arith, down-level w n (set_below x))) (fields_in xs) in
    let both : weighed (λ x. w x + weighed (inner w) (less x)) (fields_in xs) ≡ weighed w (fields_in xs) + weighed (λ x. weighed (inner w) (less x)) (fields_in xs) =
    weighed-sum (λ x. weighed (inner w) (less x)) w (fields_in xs) in
    let inside : weighed (inner w) (fields_down (suc n) xs) ≡ weighed (λ x. weighed (inner w) (less x)) (fields_in xs) = weighed-flat (inner w) less (fields_in xs) in
    omega (arith, flat, same, both, inside)

pub down-fragments-level : (w : Field → ℕ) (n : ℕ) (all : List Fragment)
    → weighed w (fields_down_fragments (suc n) all) ≡ weighed w (fields_in_fragments all) + weighed (inner w) (fields_down_fragments n all)
down-fragments-level w n [] = omega arith
down-fragments-level w n (fragment ∷ all) =
    let xs = fragment.selection_set.selections in
    omega (
      arith,
      weighed-append w (fields_down (suc n) xs) (fields_down_fragments (suc n) all),
      weighed-append w (fields_in xs) (fields_in_fragments all),
      weighed-append (inner w) (fields_down n xs) (fields_down_fragments n all),
      down-level w n xs,
      down-fragments-level w n all,
    )

-- the sets below fields, and the fields that stand there
pub below-size : (fields : List Field) → sets_size (map set_below fields) ≡ weighed (λ field. size (set_below field)) fields
below-size [] = refl
below-size (field ∷ fields) = ap (λ n. size (set_below field) + n) (below-size fields)

pub below-fields : (w : Field → ℕ) (fields : List Field) → weighed w (fields_in_all (map set_below fields)) ≡ weighed (inner w) fields
below-fields w [] = refl
below-fields w (field ∷ fields) =
    omega (arith, weighed-append w (fields_in (set_below field)) (fields_in_all (map set_below fields)), below-fields w fields)

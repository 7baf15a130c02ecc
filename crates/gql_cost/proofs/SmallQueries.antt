-- What small queries cost.
use Rattle.std.proofs.Common.{rules, arith, ◌≡◌, ◌+◌, ◌*◌, ℕ, suc, List, [], ◌∷◌, refl, inl, ap, ◌∙◌, codes}
use Rattle.gql_ast_base.specs.Names.{Named}
use Rattle.gql_ast_base.specs.declared.type_ref.TypeRef.{TypeRef, the_lemmas}
use Rattle.gql_ast_base.specs.declared.type_ref.TypeRef as ref
use Rattle.gql_document_types.specs.declared.selection.Selection.{Selection}
use Rattle.gql_schema_types.specs.MetaFields.{named}
use Rattle.gql_cost.specs.Examples.{fragments, int, of_lists, of_objects, select, selected, spread, spread_field}
use Rattle.gql_cost.specs.Size.{size}
use Rattle.gql_cost.specs.Sum.{cost, fragment_most, fragment_sum, sum_one, sum_with}
use Rattle.gql_cost.proofs.Sized.{size-is}
use Rattle.gql_cost.proofs.Sums.{sum-field, sum-spread}

module _ (items : ℕ) where
  size-name : (name : Named) (below : ℕ) → size items (ref.Named name) below ≡ 1 + below
  size-name name below = search (rules, the_lemmas)

  size-strict : (name : Named) (below : ℕ) → size items (ref.NonNullNamed name) below ≡ 1 + below
  size-strict name below = search (rules, the_lemmas)

  size-list : (item : TypeRef) (below : ℕ) → size items (ref.List item) below ≡ suc (items * size items item below)
  size-list item below = size-is items below (ref.List item) item (inl refl)

  module _ (of : List ℕ → ℕ) where
    one : (name : List ℕ) (type : TypeRef) (below : List Selection) → sum_one items of (select name type below) ≡ size items type (sum_with items of below)
    one name type below = sum-field items of (selected name type below)

    leaf : (name : List ℕ) → sum_one items of (select name int []) ≡ 1
    leaf name = one name int [] ∙ size-name (named (codes "Int")) 0

  pub objects : cost items [] of_objects ≡ 4
  objects =
      let of = fragment_most items [] in
      let y = leaf of (codes "y") in
      let strict = ref.NonNullNamed (named (codes "Int")) in
      let x = one of (codes "x") strict [] ∙ size-strict (named (codes "Int")) 0 in
      let below = select (codes "y") int [] ∷ select (codes "x") strict [] ∷ [] in
      let a = one of (codes "a") (ref.Named (named (codes "A"))) below ∙ size-name (named (codes "A")) (sum_with items of below) in
      omega (arith, x, y, a)

  pub lists : cost items [] of_lists ≡ 2 + items * (1 + items * 1)
  lists =
      let of = fragment_most items [] in
      let inner : size items (ref.List int) 0 ≡ suc (items * 1) = size-list int 0 ∙ ap (λ n. suc (items * n)) (size-name (named (codes "Int")) 0) in
      let outer : sum_one items of (select (codes "f") (ref.List (ref.List int)) []) ≡ suc (items * suc (items * 1)) =
      one of (codes "f") (ref.List (ref.List int)) [] ∙ size-list (ref.List int) 0 ∙ ap (λ n. suc (items * n)) inner in
      omega (arith, outer)

  spread-once : fragment_most items fragments (codes "F") ≡ 1
  unfolding fragment_most
  spread-once = omega (arith, leaf (fragment_sum items fragments 1) (codes "f"))

  spread-none : fragment_most items [] (codes "F") ≡ 0
  unfolding fragment_most
  spread-none = refl

  pub twice : cost items fragments (spread ∷ spread ∷ []) ≡ 3
  twice = omega (arith, sum-spread items (fragment_most items fragments) spread_field, spread-once)

  pub undefined : cost items [] (spread ∷ []) ≡ 1
  undefined = omega (arith, sum-spread items (fragment_most items []) spread_field, spread-none)

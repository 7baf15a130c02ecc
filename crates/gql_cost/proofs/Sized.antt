-- Sizes of lists.
use Rattle.std.proofs.Common.{rules, arith, ◌≡◌, ◌+◌, ◌*◌, ℕ, suc, ap, inl, inr}
use Rattle.std.specs.Prelude.{◌⊎◌}
use Rattle.gql_ast_base.specs.declared.type_ref.TypeRef.{TypeRef, the_lemmas}
use Rattle.gql_ast_base.specs.declared.type_ref.TypeRef as ref
use Rattle.gql_cost.specs.Size.{size}

module _ (items sum : ℕ) where
  size-List : (item : TypeRef) → size items (ref.List item) sum ≡ 1 + items * size items item sum
  size-List item = search (rules, the_lemmas)

  size-NonNullList : (item : TypeRef) → size items (ref.NonNullList item) sum ≡ 1 + items * size items item sum
  size-NonNullList item = search (rules, the_lemmas)

  pub size-is : (ty item : TypeRef) → (ty ≡ ref.List item) ⊎ (ty ≡ ref.NonNullList item) → size items ty sum ≡ suc (items * size items item sum)
  size-is ty item (inl is) = omega (arith, ap (λ t. size items t sum) is, size-List item)
  size-is ty item (inr is) = omega (arith, ap (λ t. size items t sum) is, size-NonNullList item)

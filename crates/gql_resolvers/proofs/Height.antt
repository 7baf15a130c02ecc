-- How many lists are inside one another in a type.
use Rattle.std.proofs.Common.{◌≡◌, ℕ, suc, true, false, is_some, refl, ap, ◌∙◌}
use Rattle.gql_ast_base.specs.declared.type_ref.TypeRef.{TypeRef, fold-TypeRef, out-TypeRef, fold_out-TypeRef}
use Rattle.gql_ast_base.specs.declared.type_ref.TypeRef as ref
use Rattle.gql_ast_base.specs.declared.type_ref.TypeRef.TheOpen.{TypeRef-F}
use Rattle.gql_ast_base.specs.TypeParts.{item_type, item_level}
use Rattle.gql_resolvers.specs.Lists.{is_list}
use Rattle.gql_resolvers.specs.Types as places

abbrev pub height_step : TypeRef-F ℕ → ℕ
height_step (TypeRef-F.Named name) = 0
height_step (TypeRef-F.NonNullNamed name) = 0
height_step (TypeRef-F.List item) = suc item
height_step (TypeRef-F.NonNullList item) = suc item

abbrev pub height : TypeRef → ℕ
height = fold-TypeRef ℕ height_step

-- a list's items are one lower
pub height-item : (ty : TypeRef) → is_list ty ≡ true → height ty ≡ suc (height (places.item_type ty))
height-item ty list = fold_out-TypeRef ℕ height_step ty ∙ by (out-TypeRef ty) list
  where
    by : (k : TypeRef-F TypeRef) → is_some (item_level k) ≡ true → height_step (ref.map-TypeRef TypeRef ℕ height k) ≡ suc (height (places.item_level ty k))
    by (TypeRef-F.Named name) e = absurd (let f : false ≡ true = e in cc)
    by (TypeRef-F.NonNullNamed name) e = absurd (let f : false ≡ true = e in cc)
    by (TypeRef-F.List item) e = refl
    by (TypeRef-F.NonNullList item) e = refl

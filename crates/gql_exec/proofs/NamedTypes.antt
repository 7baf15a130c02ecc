-- The types of the schema that places come with.
use Rattle.std.proofs.Common.{◌≡◌, true, false, is_some, refl, sym, ap, ◌∙◌}
use Rattle.std.specs.Option.{option_copied}
use Rattle.gql_ast_base.specs.Names.{Named}
use Rattle.gql_ast_base.specs.declared.type_ref.TypeRef.{TypeRef, out-TypeRef, fold_out-TypeRef}
use Rattle.gql_ast_base.specs.declared.type_ref.TypeRef as ref
use Rattle.gql_ast_base.specs.declared.type_ref.TypeRef.TheOpen.{TypeRef-F}
use Rattle.gql_ast_base.specs.TypeParts.{name_step, named_type}
use Rattle.gql_schema_types.specs.Types.{type_called}
use Rattle.gql_schema_types.specs.declared.schema.Schema.{Schema}
use Rattle.gql_schema_types.specs.Schemas.{type_named}
use Rattle.gql_ast_base.specs.TypeParts.{item_level}
use Rattle.gql_resolvers.specs.Lists.{is_list}
use Rattle.gql_resolvers.specs.Types as places
use Rattle.gql_exec.specs.bridge.Trails.{IsNamed}
use Rattle.gql_exec.specs.declared.place.Place.{Place}

-- a list names the same type as its items
item-name : (ty : TypeRef) → is_list ty ≡ true → named_type ty ≡ named_type (places.item_type ty)
item-name ty list = fold_out-TypeRef Named name_step ty ∙ by (out-TypeRef ty) list
  where
    by : (k : TypeRef-F TypeRef) → is_some (item_level k) ≡ true → name_step (ref.map-TypeRef TypeRef Named named_type k) ≡ named_type (places.item_level ty k)
    by (TypeRef-F.Named name) e = absurd (let f : false ≡ true = e in cc)
    by (TypeRef-F.NonNullNamed name) e = absurd (let f : false ≡ true = e in cc)
    by (TypeRef-F.List item) e = refl
    by (TypeRef-F.NonNullList item) e = refl

pub item-named : (schema : Schema) (list : Place) (ty : TypeRef) → is_list list.ty.now ≡ true → ty ≡ places.item_type list.ty.now → IsNamed schema list
    → option_copied list.named ≡ type_named schema ty
item-named schema list ty lists is named =
    named ∙ ap (λ (name : Named). type_called name.text schema.types) (item-name list.ty.now lists ∙ ap named_type (sym is))

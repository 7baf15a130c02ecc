-- Subtypes: section 3.6 of GraphQL October 2021, "IsValidImplementationFieldType".
use Rattle.std.specs.Prelude.{ℕ, Bool, false, ◌&&◌, ◌||◌, not, List, Option, Some, None}
use Rattle.std.specs.List.{list_any}
use Rattle.std.specs.Option.{option_map_or}
use Rattle.std.specs.Str.{bytes_eq}
use Rattle.gql_ast_base.specs.Names.{Named}
use Rattle.gql_ast_base.specs.declared.type_ref.TypeRef.{TypeRef, fold-TypeRef, out-TypeRef}
use Rattle.gql_ast_base.specs.declared.type_ref.TypeRef.TheOpen.{TypeRef-F}
use Rattle.gql_rules_values.specs.Known.{is_known}
use Rattle.gql_ast_base.specs.TypeParts.{named_type, item_type, is_non_null}
use Rattle.gql_schema_types.specs.Implementers.{implements}
use Rattle.gql_schema_types.specs.Types.{type_called}
use Rattle.gql_schema_types.specs.declared.types.ExtendedType.{ExtendedType}
use Rattle.gql_schema_types.specs.declared.types.ExtendedType.TheVariants as type

abbrev pub name_level : TypeRef-F TypeRef → Option Named
name_level (TypeRef-F.Named name) = Some name
name_level (TypeRef-F.NonNullNamed name) = Some name
name_level (TypeRef-F.List item) = None
name_level (TypeRef-F.NonNullList item) = None

-- the name of a type that is no list
abbrev pub bare_name : TypeRef → Option Named
bare_name ty = name_level (out-TypeRef ty)

module _ (types : List ExtendedType) where
  -- the type of the one name is a member of this union, or lists this interface
  abbrev pub is_below : List ℕ → ExtendedType → Bool
  is_below name (type.Union it) = list_any (λ (member : Named). bytes_eq name member.text) it.members
  is_below name (type.Interface it) = option_map_or (implements it.name.text) (type_called name types) false
  is_below name _ = false

  abbrev pub is_subname : List ℕ → List ℕ → Bool
  is_subname name other = bytes_eq name other || option_map_or (is_below name) (type_called other types) false

  -- one level of the type that is wanted: whether a type fits it
  abbrev pub sub_step : TypeRef-F (TypeRef → Bool) → TypeRef → Bool
  sub_step (TypeRef-F.Named other) ty = option_map_or (λ (name : Named). is_subname name.text other.text) (bare_name ty) false
  sub_step (TypeRef-F.NonNullNamed other) ty = is_non_null ty && option_map_or (λ (name : Named). is_subname name.text other.text) (bare_name ty) false
  sub_step (TypeRef-F.List fits) ty = option_map_or fits (item_type ty) false
  sub_step (TypeRef-F.NonNullList fits) ty = is_non_null ty && option_map_or fits (item_type ty) false

  abbrev pub is_subtype : TypeRef → TypeRef → Bool
  is_subtype wanted ty = fold-TypeRef (TypeRef → Bool) sub_step wanted ty

  -- nothing is asked of a type that is not defined
  abbrev pub are_known : TypeRef → TypeRef → Bool
  are_known a b = is_known types (named_type a).text && is_known types (named_type b).text

-- one level of a type: whether another is the same
abbrev pub same_step : TypeRef-F (TypeRef → Bool) → TypeRef → Bool
same_step (TypeRef-F.Named other) ty = not (is_non_null ty) && option_map_or (λ (name : Named). bytes_eq name.text other.text) (bare_name ty) false
same_step (TypeRef-F.NonNullNamed other) ty = is_non_null ty && option_map_or (λ (name : Named). bytes_eq name.text other.text) (bare_name ty) false
same_step (TypeRef-F.List same) ty = not (is_non_null ty) && option_map_or same (item_type ty) false
same_step (TypeRef-F.NonNullList same) ty = is_non_null ty && option_map_or same (item_type ty) false

abbrev pub is_same_type : TypeRef → TypeRef → Bool
is_same_type wanted ty = fold-TypeRef (TypeRef → Bool) same_step wanted ty

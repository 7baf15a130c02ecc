-- Which variables go into a place: AreTypesCompatible and IsVariableUsageAllowed in section 5.8.5 of GraphQL October 2021.
use Rattle.std.specs.Prelude.{Bool, true, false, ◌&&◌, ◌||◌, not, Option, Some, None}
use Rattle.std.specs.Str.{bytes_eq}
use Rattle.gql_ast_base.specs.Names.{Named}
use Rattle.gql_ast.specs.declared.operation.VariableDefinition.{VariableDefinition}
use Rattle.gql_ast_base.specs.declared.type_ref.TypeRef.{TypeRef, fold-TypeRef, out-TypeRef}
use Rattle.gql_ast_base.specs.declared.type_ref.TypeRef.TheOpen.{TypeRef-F}
use Rattle.gql_ast_base.specs.declared.type_ref.TypeRef.TheVariants as type
use Rattle.gql_ast_base.specs.declared.value.Value.{Value}
use Rattle.gql_ast_base.specs.declared.value.ValueKind.{ValueKind, out-ValueKind}
use Rattle.gql_ast_base.specs.declared.value.ValueKind.TheOpen.{ValueKind-F}
use Rattle.gql_ast_base.specs.TypeParts.{is_non_null}

-- for the type of a place, a type goes into it
abbrev pub Into : Type 0
Into = TypeRef → Bool

-- What is not null goes into what may be null, and nothing the other way; a list goes into a list of what its items go into; a name
-- goes into itself.
abbrev pub into_level : TypeRef-F Into → TypeRef-F TypeRef → Bool
into_level (TypeRef-F.Named name) (TypeRef-F.Named place) = bytes_eq name.text place.text
into_level (TypeRef-F.NonNullNamed name) (TypeRef-F.Named place) = bytes_eq name.text place.text
into_level (TypeRef-F.NonNullNamed name) (TypeRef-F.NonNullNamed place) = bytes_eq name.text place.text
into_level (TypeRef-F.List item) (TypeRef-F.List place) = item place
into_level (TypeRef-F.NonNullList item) (TypeRef-F.List place) = item place
into_level (TypeRef-F.NonNullList item) (TypeRef-F.NonNullList place) = item place
into_level _ _ = false

abbrev pub into_step : TypeRef-F Into → Into
into_step variable place = into_level variable (out-TypeRef place)

abbrev pub goes_into : TypeRef → Into
goes_into = fold-TypeRef Into into_step

-- the type without `!`
abbrev pub nullable_level : TypeRef-F TypeRef → TypeRef
nullable_level (TypeRef-F.Named name) = type.Named name
nullable_level (TypeRef-F.NonNullNamed name) = type.Named name
nullable_level (TypeRef-F.List item) = type.List item
nullable_level (TypeRef-F.NonNullList item) = type.List item

abbrev pub nullable : TypeRef → TypeRef
nullable ty = nullable_level (out-TypeRef ty)

-- a default, if it is not null
abbrev pub not_null_level : ValueKind-F ValueKind Value → Bool
not_null_level ValueKind-F.Null = false
not_null_level _ = true

abbrev pub has_value : Option Value → Bool
has_value None = false
has_value (Some default) = not_null_level (out-ValueKind default.kind)

-- A use of the variable is allowed at this type. Null is no value of the type but one of the variable's: then the variable has a default
-- other than null, or the argument or input field has a default.
abbrev pub is_allowed_by_default : VariableDefinition → Bool → TypeRef → Bool
is_allowed_by_default variable has_default ty =
    (has_default || has_value variable.default_value) && ((is_non_null ty && not (is_non_null variable.ty)) && goes_into variable.ty (nullable ty))

abbrev pub is_allowed : VariableDefinition → Bool → TypeRef → Bool
is_allowed variable has_default ty = goes_into variable.ty ty || is_allowed_by_default variable has_default ty

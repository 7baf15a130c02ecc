-- The data that the full query is answered with of a schema of which this is shown: section 4.2 of GraphQL October 2021, with `isOneOf` of
-- September 2025.
use Rattle.std.specs.Prelude.{ℕ, zero, suc, Bool, true, false, List, [], ◌∷◌, map, Option, Some, None, codes}
use Rattle.std.specs.List.{find}
use Rattle.std.specs.Option.{option_map_or}
use Rattle.std.specs.Str.{bytes_eq}
use Rattle.gql_ast_base.specs.Names.{Named}
use Rattle.gql_ast_base.specs.declared.type_ref.TypeRef.{TypeRef, out-TypeRef, List as ListOf}
use Rattle.gql_ast_base.specs.declared.type_ref.TypeRef.TheOpen.{TypeRef-F}
use Rattle.gql_ast_base.specs.declared.type_ref.TypeRef.TheVariants as ref
use Rattle.gql_ast.specs.Schemas.{location_name}
use Rattle.gql_ast.specs.declared.schema_definition.DirectiveLocation.{DirectiveLocation}
use Rattle.gql_sdl.specs.declared.shown.Deprecation.{Deprecation}
use Rattle.gql_sdl.specs.declared.shown.ShownDirective.{ShownDirective}
use Rattle.gql_sdl.specs.declared.shown.ShownEnumValue.{ShownEnumValue}
use Rattle.gql_sdl.specs.declared.shown.ShownField.{ShownField}
use Rattle.gql_sdl.specs.declared.shown.ShownInput.{ShownInput}
use Rattle.gql_sdl.specs.declared.shown.ShownSchema.{ShownSchema}
use Rattle.gql_sdl.specs.declared.shown.ShownType.{ShownType}
use Rattle.gql_sdl.specs.declared.shown.TypeKind.{TypeKind}
use Rattle.gql_sdl.specs.declared.shown.TypeKind.TheVariants.{Scalar, Object, Interface, Union, Enum, InputObject}
use Rattle.jb_tree.specs.declared.value.Value.{Value}
use Rattle.jb_tree.specs.declared.value.Value.TheVariants as json

abbrev pub Pairs : Type 0
Pairs = List (List ℕ × Value)

abbrev pub text_or_null : Option (List ℕ) → Value
text_or_null None = json.Null
text_or_null (Some text) = json.String text

abbrev pub list_value : {X : Type 0} → (X → Value) → List X → Value
list_value value xs = json.Array (map value xs)

abbrev pub list_if : {X : Type 0} → Bool → (X → Value) → List X → Value
list_if true value xs = list_value value xs
list_if false value xs = json.Null

-- ---- references

abbrev pub kind_text : TypeKind → List ℕ
kind_text Scalar = codes "SCALAR"
kind_text Object = codes "OBJECT"
kind_text Interface = codes "INTERFACE"
kind_text Union = codes "UNION"
kind_text Enum = codes "ENUM"
kind_text InputObject = codes "INPUT_OBJECT"

abbrev pub is_named : List ℕ → ShownType → Bool
is_named name ty = bytes_eq name ty.name.text

abbrev pub kind_of : ShownType → TypeKind
kind_of ty = ty.kind

-- the kind of the type of a name
abbrev pub kind_among : List ShownType → List ℕ → TypeKind
kind_among types name = option_map_or kind_of (find (is_named name) types) Scalar

-- what is inside a wrapper
abbrev pub inside_level : TypeRef-F TypeRef → Option TypeRef
inside_level (TypeRef-F.Named name) = None
inside_level (TypeRef-F.NonNullNamed name) = Some (ref.Named name)
inside_level (TypeRef-F.List item) = Some item
inside_level (TypeRef-F.NonNullList item) = Some (ListOf item)

abbrev pub object_or_null : Option Pairs → Value
object_or_null None = json.Null
object_or_null (Some pairs) = json.Object pairs

abbrev pub of_type : Option Pairs → Pairs → Pairs
of_type inside (kind ∷ name ∷ rest) = kind ∷ name ∷ (codes "ofType", object_or_null inside) ∷ []
of_type inside pairs = pairs

abbrev pub both_of : (TypeRef → Pairs) → Option TypeRef → Option Pairs
both_of pairs None = None
both_of pairs (Some ty) = Some (pairs ty)

abbrev pub is_deprecated : Option Deprecation → Bool
is_deprecated None = false
is_deprecated (Some deprecation) = true

abbrev pub reason_in : Option Deprecation → Option (List ℕ)
reason_in None = None
reason_in (Some deprecation) = deprecation.reason

abbrev pub deprecation_pairs : Option Deprecation → Pairs
deprecation_pairs deprecation =
    (codes "isDeprecated", json.Bool (is_deprecated deprecation)) ∷ (codes "deprecationReason", text_or_null (reason_in deprecation)) ∷ []

abbrev pub enum_value : ShownEnumValue → Value
enum_value value = json.Object (
    (codes "name", json.String value.name.text) ∷ (codes "description", text_or_null value.description) ∷ deprecation_pairs value.deprecation)

abbrev pub location_value : DirectiveLocation → Value
location_value location = json.String (location_name location)

abbrev pub has_fields : TypeKind → Bool
has_fields Object = true
has_fields Interface = true
has_fields _ = false

abbrev pub has_possible_types : TypeKind → Bool
has_possible_types Interface = true
has_possible_types Union = true
has_possible_types _ = false

abbrev pub is_enum : TypeKind → Bool
is_enum Enum = true
is_enum _ = false

abbrev pub is_input_object : TypeKind → Bool
is_input_object InputObject = true
is_input_object _ = false

abbrev pub truth_if : Bool → Bool → Value
truth_if true truth = json.Bool truth
truth_if false truth = json.Null

module _ (types : List ShownType) where
  abbrev pub head_level : TypeRef-F TypeRef → Pairs
  head_level (TypeRef-F.Named name) = (codes "kind", json.String (kind_text (kind_among types name.text))) ∷ (codes "name", json.String name.text) ∷ []
  head_level (TypeRef-F.NonNullNamed name) = (codes "kind", json.String (codes "NON_NULL")) ∷ (codes "name", json.Null) ∷ []
  head_level (TypeRef-F.List item) = (codes "kind", json.String (codes "LIST")) ∷ (codes "name", json.Null) ∷ []
  head_level (TypeRef-F.NonNullList item) = (codes "kind", json.String (codes "NON_NULL")) ∷ (codes "name", json.Null) ∷ []

  -- a reference, asked for with so many references inside it
  unfoldable pub reference_pairs : ℕ → TypeRef → Pairs
  reference_pairs zero ty = head_level (out-TypeRef ty)
  reference_pairs (suc left) ty = of_type (both_of (reference_pairs left) (inside_level (out-TypeRef ty))) (head_level (out-TypeRef ty))

  abbrev pub reference_value : TypeRef → Value
  reference_value ty = json.Object (reference_pairs 8 ty)

  abbrev pub input_value : ShownInput → Value
  input_value input = json.Object (
      (codes "name", json.String input.name.text) ∷ (codes "description", text_or_null input.description) ∷ (codes "type", reference_value input.ty)
      ∷ (codes "defaultValue", text_or_null input.default_value) ∷ deprecation_pairs input.deprecation)

  abbrev pub field_value : ShownField → Value
  field_value field = json.Object (
      (codes "name", json.String field.name.text) ∷ (codes "description", text_or_null field.description)
      ∷ (codes "args", list_value input_value field.arguments) ∷ (codes "type", reference_value field.ty) ∷ deprecation_pairs field.deprecation)

  abbrev pub directive_value : ShownDirective → Value
  directive_value directive = json.Object (
      (codes "name", json.String directive.name.text) ∷ (codes "description", text_or_null directive.description)
      ∷ (codes "isRepeatable", json.Bool directive.is_repeatable) ∷ (codes "locations", list_value location_value directive.locations)
      ∷ (codes "args", list_value input_value directive.arguments) ∷ [])

  abbrev pub type_value : ShownType → Value
  type_value ty = json.Object (
      (codes "kind", json.String (kind_text ty.kind)) ∷ (codes "name", json.String ty.name.text) ∷ (codes "description", text_or_null ty.description)
      ∷ (codes "specifiedByURL", text_or_null ty.specified_by_url) ∷ (codes "isOneOf", truth_if (is_input_object ty.kind) ty.is_one_of)
      ∷ (codes "fields", list_if (has_fields ty.kind) field_value ty.fields)
      ∷ (codes "inputFields", list_if (is_input_object ty.kind) input_value ty.input_fields)
      ∷ (codes "interfaces", list_if (has_fields ty.kind) reference_value ty.interfaces)
      ∷ (codes "possibleTypes", list_if (has_possible_types ty.kind) reference_value ty.possible_types)
      ∷ (codes "enumValues", list_if (is_enum ty.kind) enum_value ty.enum_values) ∷ [])

-- ---- the schema

abbrev pub root_value : Named → Value
root_value name = json.Object ((codes "name", json.String name.text) ∷ [])

abbrev pub root_or_null : Option Named → Value
root_or_null None = json.Null
root_or_null (Some name) = root_value name

abbrev pub schema_value : ShownSchema → Value
schema_value shown = json.Object (
    (codes "description", text_or_null shown.description) ∷ (codes "queryType", root_value shown.query)
    ∷ (codes "mutationType", root_or_null shown.mutation) ∷ (codes "subscriptionType", root_or_null shown.subscription)
    ∷ (codes "types", list_value (type_value shown.types) shown.types)
    ∷ (codes "directives", list_value (directive_value shown.types) shown.directives) ∷ [])

-- the data of the answer
abbrev pub data_value : ShownSchema → Value
data_value shown = json.Object ((codes "__schema", schema_value shown) ∷ [])

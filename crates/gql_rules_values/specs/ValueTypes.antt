-- What the values of types are: section 3.4 of GraphQL October 2021. A built-in scalar that is not among the types has its values all the same.
use Rattle.std.specs.Prelude.{ℕ, Bool, true, false, ◌||◌, not, List, is_some, if◌then◌else◌, codes}
use Rattle.std.specs.Option.{option_map_or}
use Rattle.std.specs.Str.{bytes_eq}
use Rattle.gql_ast_base.specs.declared.type_ref.TypeRef.{TypeRef}
use Rattle.gql_ast_base.specs.declared.value.Value.{Value}
use Rattle.gql_ast_base.specs.declared.value.ValueKind.{ValueKind, out-ValueKind}
use Rattle.gql_ast_base.specs.declared.value.ValueKind.TheOpen.{ValueKind-F}
use Rattle.gql_schema_types.specs.Types.{type_called}
use Rattle.gql_schema_types.specs.declared.types.ExtendedType.{ExtendedType}
use Rattle.gql_schema_types.specs.declared.types.ExtendedType.TheVariants as type
use Rattle.gql_ast_base.specs.TypeParts.{named_type, item_type, is_non_null}
use Rattle.gql_rules_values.specs.declared.value_types.ValueForm.{ValueForm}
use Rattle.gql_rules_values.specs.declared.value_types.ValueForm.TheVariants as form

abbrev pub form_level : ValueKind-F ValueKind Value → ValueForm
form_level ValueKind-F.Null = form.Null
form_level (ValueKind-F.Variable name) = form.Variable
form_level (ValueKind-F.Int text) = form.Int
form_level (ValueKind-F.Float text) = form.Float
form_level (ValueKind-F.String text) = form.String
form_level (ValueKind-F.Boolean truth) = form.Boolean
form_level (ValueKind-F.Enum name) = form.Enum
form_level (ValueKind-F.List items) = form.List
form_level (ValueKind-F.Object members) = form.Object

-- how a value is written
abbrev pub form_of : Value → ValueForm
form_of literal = form_level (out-ValueKind literal.kind)

abbrev pub is_int : ValueForm → Bool
is_int form.Int = true
is_int _ = false

abbrev pub is_number : ValueForm → Bool
is_number form.Int = true
is_number form.Float = true
is_number _ = false

abbrev pub is_string : ValueForm → Bool
is_string form.String = true
is_string _ = false

abbrev pub is_boolean : ValueForm → Bool
is_boolean form.Boolean = true
is_boolean _ = false

abbrev pub is_id : ValueForm → Bool
is_id form.Int = true
is_id form.String = true
is_id _ = false

abbrev pub is_enum : ValueForm → Bool
is_enum form.Enum = true
is_enum _ = false

abbrev pub is_object : ValueForm → Bool
is_object form.Object = true
is_object _ = false

-- the scalar of this name has values that are written so; one that is not built in has any: section 3.5
abbrev pub scalar_accepts : List ℕ → ValueForm → Bool
scalar_accepts name form =
    if bytes_eq name (codes "Int") then is_int form
    else (if bytes_eq name (codes "Float") then is_number form
    else (if bytes_eq name (codes "String") then is_string form
    else (if bytes_eq name (codes "Boolean") then is_boolean form
    else (if bytes_eq name (codes "ID") then is_id form
    else true))))

-- the type has values that are written so; a type that is no input type has none
abbrev pub type_accepts : ExtendedType → List ℕ → ValueForm → Bool
type_accepts (type.Scalar it) name form = scalar_accepts name form
type_accepts (type.Enum it) name form = is_enum form
type_accepts (type.InputObject it) name form = is_object form
type_accepts _ name form = false

abbrev pub accepts : List ExtendedType → List ℕ → ValueForm → Bool
accepts types name form = option_map_or (λ ty. type_accepts ty name form) (type_called name types) (scalar_accepts name form)

-- a value that is written so may stand at the type; a single value may stand for a list
abbrev pub fits : List ExtendedType → TypeRef → ValueForm → Bool
fits types ty form.Null = not (is_non_null ty)
fits types ty form.Variable = true
fits types ty form.List = is_some (item_type ty) || accepts types (named_type ty).text form.List
fits types ty form = accepts types (named_type ty).text form

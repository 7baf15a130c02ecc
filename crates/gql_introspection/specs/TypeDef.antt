-- The fields of `__Type` of a type with a name: section 4.2.2 of GraphQL October 2021.
use Rattle.std.specs.Prelude.{ℕ, Bool, ◌&&◌, List, map, filter, Option, Some, None, if◌then◌else◌, codes}
use Rattle.std.specs.Str.{bytes_eq}
use Rattle.gql_resolvers.specs.Resolved.{Meaning}
use Rattle.gql_resolvers.specs.Meaning.{Members}
use Rattle.gql_schema_types.specs.Implementers.{is_object, implements}
use Rattle.gql_schema_types.specs.Types.{type_name, is_one_of}
use Rattle.gql_schema_types.specs.declared.schema.Schema.{Schema}
use Rattle.gql_schema_types.specs.declared.types.ExtendedType.{ExtendedType}
use Rattle.gql_schema_types.specs.declared.types.ExtendedType.TheVariants.{Scalar, Object, Interface, Union, Enum, InputObject}
use Rattle.gql_introspection.specs.Answers.{null_leaf, text_leaf, text_or_null, truth_leaf, objects}
use Rattle.gql_introspection.specs.Deprecation.{specified_by}
use Rattle.gql_introspection.specs.Kept.{kept_fields, kept_enum_values, kept_input_values}
use Rattle.gql_introspection.specs.Meta.{Meta, type_def}
use Rattle.gql_introspection.specs.NamedTypes.{named_types}

abbrev pub type_kind : ExtendedType → List ℕ
type_kind (Scalar it) = codes "SCALAR"
type_kind (Object it) = codes "OBJECT"
type_kind (Interface it) = codes "INTERFACE"
type_kind (Union it) = codes "UNION"
type_kind (Enum it) = codes "ENUM"
type_kind (InputObject it) = codes "INPUT_OBJECT"

abbrev pub type_description : ExtendedType → Option (List ℕ)
type_description (Scalar it) = it.description
type_description (Object it) = it.description
type_description (Interface it) = it.description
type_description (Union it) = it.description
type_description (Enum it) = it.description
type_description (InputObject it) = it.description

abbrev pub scalar_url : ExtendedType → Option (List ℕ)
scalar_url (Scalar it) = specified_by it.directives
scalar_url _ = None

-- whether an input object is one-of: section 4.2.2 of GraphQL September 2025
abbrev pub one_of : ExtendedType → Meaning Meta
one_of (InputObject it) = truth_leaf (is_one_of it)
one_of _ = null_leaf

-- an object type that says that it implements the interface
abbrev pub is_implementing : List ℕ → ExtendedType → Bool
is_implementing interface ty = is_object ty && implements interface ty

module _ (schema : Schema) where
  abbrev pub type_fields : Members → ExtendedType → Meaning Meta
  type_fields arguments (Object it) = kept_fields schema arguments it.fields
  type_fields arguments (Interface it) = kept_fields schema arguments it.fields
  type_fields arguments _ = null_leaf

  abbrev pub type_interfaces : ExtendedType → Meaning Meta
  type_interfaces (Object it) = named_types schema it.implements_interfaces
  type_interfaces (Interface it) = named_types schema it.implements_interfaces
  type_interfaces _ = null_leaf

  -- the object types that implement the interface of a name, in the schema's order
  abbrev pub implementing : List ℕ → Meaning Meta
  implementing interface = objects (map (type_def schema) (filter (is_implementing interface) schema.types))

  -- those of an interface, and the members of a union as listed
  abbrev pub possible_types : ExtendedType → Meaning Meta
  possible_types (Interface it) = implementing it.name.text
  possible_types (Union it) = named_types schema it.members
  possible_types _ = null_leaf

  abbrev pub enum_values : Members → ExtendedType → Meaning Meta
  enum_values arguments (Enum it) = kept_enum_values schema arguments it.values
  enum_values arguments _ = null_leaf

  abbrev pub input_fields : Members → ExtendedType → Meaning Meta
  input_fields arguments (InputObject it) = kept_input_values schema arguments it.fields
  input_fields arguments _ = null_leaf

  abbrev pub type_row : ExtendedType → List ℕ → Members → Option (Meaning Meta)
  type_row ty f arguments =
      if bytes_eq f (codes "kind") then Some (text_leaf (type_kind ty))
      else if bytes_eq f (codes "name") then Some (text_leaf (type_name ty).text)
      else if bytes_eq f (codes "description") then Some (text_or_null (type_description ty))
      else if bytes_eq f (codes "fields") then Some (type_fields arguments ty)
      else if bytes_eq f (codes "interfaces") then Some (type_interfaces ty)
      else if bytes_eq f (codes "possibleTypes") then Some (possible_types ty)
      else if bytes_eq f (codes "enumValues") then Some (enum_values arguments ty)
      else if bytes_eq f (codes "inputFields") then Some (input_fields arguments ty)
      else if bytes_eq f (codes "ofType") then Some null_leaf
      else if bytes_eq f (codes "specifiedByURL") then Some (text_or_null (scalar_url ty))
      else if bytes_eq f (codes "isOneOf") then Some (one_of ty)
      else None

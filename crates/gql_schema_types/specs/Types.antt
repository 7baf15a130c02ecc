-- Types of a schema: section 3.4 of GraphQL October 2021.
use Rattle.std.specs.Prelude.{ℕ, Bool, true, false, Option, Some, None, List, [], codes}
use Rattle.std.specs.List.{list_any}
use Rattle.std.specs.Str.{bytes_eq}
use Rattle.gql_ast_base.specs.Names.{Named}
use Rattle.gql_ast_base.specs.declared.directive.Directive.{Directive}
use Rattle.gql_ast.specs.declared.field_definition.FieldDefinition.{FieldDefinition}
use Rattle.gql_schema_types.specs.Entries.{entry}
use Rattle.gql_schema_types.specs.declared.types.ExtendedType.{ExtendedType}
use Rattle.gql_schema_types.specs.declared.types.ExtendedType.TheVariants.{Scalar, Object, Interface, Union, Enum, InputObject}
use Rattle.gql_schema_types.specs.declared.types.InputObjectType.{InputObjectType}
use Rattle.gql_schema_types.specs.declared.types.ObjectType.{ObjectType}

abbrev pub type_name : ExtendedType → Named
type_name (Scalar it) = it.name
type_name (Object it) = it.name
type_name (Interface it) = it.name
type_name (Union it) = it.name
type_name (Enum it) = it.name
type_name (InputObject it) = it.name

-- the type of a name
abbrev pub type_called : List ℕ → List ExtendedType → Option ExtendedType
type_called name types = entry type_name name types

-- a type that has fields or is a choice of such types
abbrev pub is_composite : ExtendedType → Bool
is_composite (Object _) = true
is_composite (Interface _) = true
is_composite (Union _) = true
is_composite _ = false

-- the object type itself, where the type is one
abbrev pub as_object : ExtendedType → Option ObjectType
as_object (Object it) = Some it
as_object _ = None

-- the interfaces that a type says it implements
abbrev pub interfaces_of : ExtendedType → List Named
interfaces_of (Object it) = it.implements_interfaces
interfaces_of (Interface it) = it.implements_interfaces
interfaces_of _ = []

abbrev pub field_name : FieldDefinition → Named
field_name field = field.name

-- a type's own fields: sections 3.6 and 3.7
abbrev pub fields_of : ExtendedType → List FieldDefinition
fields_of (Object it) = it.fields
fields_of (Interface it) = it.fields
fields_of _ = []

-- one-of: section 3.10.1 of GraphQL September 2025
abbrev pub is_one_of : InputObjectType → Bool
is_one_of it = list_any (λ (directive : Directive). bytes_eq (codes "oneOf") directive.name.text) it.directives

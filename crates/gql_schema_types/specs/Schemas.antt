-- Fields and objects of a schema.
use Rattle.std.specs.Prelude.{ℕ, Bool, false, ◌&&◌, Option, Some, None, List, if◌then◌else◌, codes}
use Rattle.std.specs.Option.{option_or, option_map_or, option_and_then}
use Rattle.std.specs.Str.{bytes_eq}
use Rattle.gql_ast_base.specs.Names.{Named}
use Rattle.gql_ast_base.specs.declared.operation_type.OperationType.{OperationType}
use Rattle.gql_ast_base.specs.declared.operation_type.OperationType.TheVariants.{Query, Mutation, Subscription}
use Rattle.gql_ast.specs.declared.field_definition.FieldDefinition.{FieldDefinition}
use Rattle.gql_ast_base.specs.TypeParts.{named_type}
use Rattle.gql_ast_base.specs.declared.type_ref.TypeRef.{TypeRef}
use Rattle.gql_schema_types.specs.Entries.{entry}
use Rattle.gql_schema_types.specs.MetaFields.{type_name_field, schema_field, type_field}
use Rattle.gql_schema_types.specs.Types.{type_called, as_object, is_composite, fields_of, field_name}
use Rattle.gql_schema_types.specs.declared.schema.Schema.{Schema}
use Rattle.gql_schema_types.specs.declared.schema.SchemaDefinition.{SchemaDefinition}
use Rattle.gql_schema_types.specs.declared.types.ExtendedType.{ExtendedType}
use Rattle.gql_schema_types.specs.declared.types.ObjectType.{ObjectType}

-- the root type of an operation: section 3.3.1
abbrev pub root_of : OperationType → SchemaDefinition → Option Named
root_of Query definition = definition.query
root_of Mutation definition = definition.mutation
root_of Subscription definition = definition.subscription

-- is this the name of the root type of queries?
abbrev pub is_query_root : SchemaDefinition → List ℕ → Bool
is_query_root definition name = option_map_or (λ root. bytes_eq name root.text) definition.query false

-- a type's field that is not its own: `__typename` on composite types, `__schema` and `__type` on the root type of queries
abbrev pub meta_field : Bool → Bool → List ℕ → Option FieldDefinition
meta_field composite root name =
    if composite && bytes_eq name (codes "__typename") then Some type_name_field
    else (if root && bytes_eq name (codes "__schema") then Some schema_field
    else (if root && bytes_eq name (codes "__type") then Some type_field
    else None))

-- the field of a type, its own before others
abbrev pub field_on : SchemaDefinition → ExtendedType → List ℕ → List ℕ → Option FieldDefinition
field_on definition ty type_name name =
    option_or (entry field_name name (fields_of ty)) (meta_field (is_composite ty) (is_query_root definition type_name) name)

-- the field of the type of a name
abbrev pub field_of : Schema → List ℕ → List ℕ → Option FieldDefinition
field_of schema type_name name = option_and_then (λ ty. field_on schema.schema_definition ty type_name name) (type_called type_name schema.types)

-- the object type of a name
abbrev pub object_of : Schema → List ℕ → Option ObjectType
object_of schema name = option_and_then as_object (type_called name schema.types)

-- the type that a reference names, within all lists
abbrev pub type_named : Schema → TypeRef → Option ExtendedType
type_named schema ty = type_called (named_type ty).text schema.types

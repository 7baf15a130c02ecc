-- The root operation types of a schema are object types of it: section 3.3.1 of GraphQL October 2021.
use Rattle.std.specs.Prelude.{◌≡◌, true, Some, is_some}
use Rattle.gql_ast_base.specs.Names.{Named}
use Rattle.gql_ast_base.specs.declared.operation_type.OperationType.{OperationType}
use Rattle.gql_schema_types.specs.Schemas.{root_of, object_of}
use Rattle.gql_schema_types.specs.declared.schema.Schema.{Schema}

-- where an operation type has a root type, this is an object type
abbrev pub AreRootsObjects : Schema → Type 0
AreRootsObjects schema =
    (operation_type : OperationType) (root : Named) → root_of operation_type schema.schema_definition ≡ Some root
    → is_some (object_of schema root.text) ≡ true

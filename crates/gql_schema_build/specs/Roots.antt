-- The root operation types of a schema: section 3.3.1 of GraphQL October 2021.
use Rattle.std.specs.Prelude.{ℕ, Bool, ◌||◌, Option, Some, None, List, [], is_some, if◌then◌else◌, option_and_then, codes}
use Rattle.std.specs.Option.{option_map}
use Rattle.gql_ast_base.specs.Names.{Named}
use Rattle.gql_ast_base.specs.declared.operation_type.OperationType.{OperationType}
use Rattle.gql_ast_base.specs.declared.operation_type.OperationType.TheVariants.{Query, Mutation, Subscription}
use Rattle.gql_schema_types.specs.Schemas.{root_of}
use Rattle.gql_schema_types.specs.Types.{type_called, as_object}
use Rattle.gql_schema_types.specs.declared.schema.SchemaDefinition.{SchemaDefinition}
use Rattle.gql_schema_types.specs.declared.types.ExtendedType.{ExtendedType}

-- an operation type, and the name of its root type
abbrev pub Root : Type 0
Root = OperationType × Named

abbrev pub root_put : OperationType → Named → SchemaDefinition → SchemaDefinition
root_put Query name d = record d { query = Some name }
root_put Mutation name d = record d { mutation = Some name }
root_put Subscription name d = record d { subscription = Some name }

-- with the root type, unless the operation type has one
abbrev pub with_root : SchemaDefinition → Root → SchemaDefinition
with_root d root = if is_some (root_of root.0 d) then d else root_put root.0 root.1 d

abbrev pub has_root : SchemaDefinition → Bool
has_root d = is_some d.query || (is_some d.mutation || is_some d.subscription)

-- a default root: the object type of that name, from no place
abbrev pub default_root : List ExtendedType → List ℕ → Option Named
default_root types name = option_map (λ _. record { text = name; location = None }) (option_and_then as_object (type_called name types))

-- the definition of a schema where none is written
abbrev pub default_definition : List ExtendedType → SchemaDefinition
default_definition types = record {
  description = None;
  directives = [];
  query = default_root types (codes "Query");
  mutation = default_root types (codes "Mutation");
  subscription = default_root types (codes "Subscription");
  location = None;
}

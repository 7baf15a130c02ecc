-- What is said of a schema as a whole, and its root types: section 3.3 of GraphQL October 2021.
use Rattle.std.specs.Prelude.{true, Option, Some, None, List, [], ◌++◌, fold, if◌then◌else◌}
use Rattle.gql_ast.specs.declared.schema_definition.SchemaDefinition as ast
use Rattle.gql_ast.specs.declared.extension.SchemaExtension.{SchemaExtension}
use Rattle.gql_diag_messages.specs.declared.diagnostic_data.DiagnosticData.{DiagnosticData}
use Rattle.gql_schema_types.specs.declared.schema.SchemaDefinition.{SchemaDefinition}
use Rattle.gql_schema_types.specs.declared.types.ExtendedType.{ExtendedType}
use Rattle.gql_schema_build.specs.DuplicateRootOperation.{duplicate_root_operations}
use Rattle.gql_schema_build.specs.OrphanSchemaExtension.{orphan_schema_extensions}
use Rattle.gql_schema_build.specs.Roots.{with_root, has_root, default_definition}
use Rattle.gql_schema_build.specs.SchemaDefinitionCollision.{first_schema, schema_definition_collisions}
use Rattle.gql_schema_build.specs.declared.schema_definition.Draft.{Draft}

-- what the first `schema` says, or where none is written the default; such a schema can be extended if it has a root
abbrev pub beginning : List ExtendedType → Option ast.SchemaDefinition → Draft
beginning types (Some d) = record {
  definition = record { description = d.description; directives = d.directives; query = None; mutation = None; subscription = None; location = d.location };
  roots = d.root_operations;
  extensible = true;
}
beginning types None = record { definition = default_definition types; roots = []; extensible = has_root (default_definition types) }

-- with what one extension adds
abbrev pub extended_once : Draft → SchemaExtension → Draft
extended_once b e = record b {
  definition = record b.definition { directives = b.definition.directives ++ e.directives };
  roots = b.roots ++ e.root_operations;
}

-- with what the extensions add, in order
abbrev pub extended_by : List SchemaExtension → Draft → Draft
extended_by es b = fold extended_once b es

-- extensions of a schema that is not there add nothing
abbrev pub extended : List SchemaExtension → Draft → Draft
extended es b = if b.extensible then extended_by es b else b

abbrev pub orphans : List SchemaExtension → Draft → List DiagnosticData
orphans es b = if b.extensible then [] else orphan_schema_extensions es

-- of each operation type the first root type
abbrev pub finished : Draft → SchemaDefinition
finished b = fold with_root b.definition b.roots

abbrev pub schema_definition : List ast.SchemaDefinition → List SchemaExtension → List ExtendedType → SchemaDefinition
schema_definition schemas es types = finished (extended es (beginning types (first_schema schemas)))

abbrev pub root_faults : List SchemaExtension → Draft → List DiagnosticData
root_faults es b = orphans es b ++ duplicate_root_operations (extended es b).definition (extended es b).roots

abbrev pub schema_faults : List ast.SchemaDefinition → List SchemaExtension → List ExtendedType → List DiagnosticData
schema_faults schemas es types = schema_definition_collisions schemas ++ root_faults es (beginning types (first_schema schemas))

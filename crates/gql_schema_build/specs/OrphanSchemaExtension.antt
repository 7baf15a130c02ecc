-- A schema that is extended exists: it is defined, or a type has the name of a default root: section 3.3.2 of GraphQL October 2021.
-- `orphans` of SchemaDefinitions.antt says where it is broken.
use Rattle.std.specs.Prelude.{List, [], map, None}
use Rattle.gql_ast.specs.declared.extension.SchemaExtension.{SchemaExtension}
use Rattle.gql_diag_messages.specs.declared.rule.Rule.TheVariants.{OrphanSchemaExtension}
use Rattle.gql_diag_messages.specs.declared.diagnostic_data.DiagnosticData.{DiagnosticData}
use Rattle.gql_schema_build.specs.Faults.{fault}

abbrev pub orphan_schema_extension : SchemaExtension → DiagnosticData
orphan_schema_extension e = fault OrphanSchemaExtension [] e.location None

-- one for each extension of a schema that is not there
abbrev pub orphan_schema_extensions : List SchemaExtension → List DiagnosticData
orphan_schema_extensions es = map orphan_schema_extension es

-- There is a root type of queries: section 3.3.1 of GraphQL October 2021.
use Rattle.std.specs.Prelude.{List, [], None, is_none}
use Rattle.gql_diag_messages.specs.declared.rule.Rule.TheVariants.{QueryRootOperationType}
use Rattle.gql_diag_messages.specs.declared.diagnostic_data.DiagnosticData.{DiagnosticData}
use Rattle.gql_rules_values.specs.Faults.{fault, only_if}
use Rattle.gql_schema_types.specs.declared.schema.SchemaDefinition.{SchemaDefinition}

abbrev pub query_root_operation_type : SchemaDefinition → List DiagnosticData
query_root_operation_type definition = only_if (is_none definition.query) (fault QueryRootOperationType [] None None)

-- What is wrong with a schema as a whole, and with its directives: sections 3.3 and 3.13 of GraphQL October 2021.
use Rattle.std.specs.Prelude.{List, [], ◌++◌, option_to_list, if◌then◌else◌}
use Rattle.std.specs.List.{flat_map}
use Rattle.gql_ast_base.specs.Names.{Named}
use Rattle.gql_ast_base.specs.declared.operation_type.OperationType.{OperationType}
use Rattle.gql_ast_base.specs.declared.operation_type.OperationType.TheVariants.{Query, Mutation, Subscription}
use Rattle.gql_ast.specs.declared.schema_definition.DirectiveDefinition.{DirectiveDefinition}
use Rattle.gql_ast.specs.declared.schema_definition.DirectiveLocation.TheVariants as at
use Rattle.gql_diag_messages.specs.declared.diagnostic_data.DiagnosticData.{DiagnosticData}
use Rattle.gql_rules_values.specs.Written.{is_written}
use Rattle.gql_rules_values.specs.declared.known.Defined.TheVariants.{TypesAndScalars}
use Rattle.gql_rules_values.specs.Directives.{directive_faults}
use Rattle.gql_schema_rules_parts.specs.DuplicateRootOperationType.{duplicate_root_operation_type}
use Rattle.gql_schema_rules_parts.specs.InputValues.{arguments_faults}
use Rattle.gql_schema_rules_parts.specs.QueryRootOperationType.{query_root_operation_type}
use Rattle.gql_schema_rules_parts.specs.ReservedName.{reserved_name}
use Rattle.gql_schema_rules_parts.specs.RootOperationObjectType.{root_operation_object_type}
use Rattle.gql_schema_rules_parts.specs.UndefinedDefinition.{undefined_definition}
use Rattle.gql_schema_types.specs.Schemas.{root_of}
use Rattle.gql_schema_types.specs.declared.schema.Schema.{Schema}

module _ (schema : Schema) where
  abbrev pub root_name_faults : Named → List DiagnosticData
  root_name_faults name = undefined_definition schema.types name ++ root_operation_object_type schema.types name

  -- the root type of such operations
  abbrev pub root_faults : OperationType → List DiagnosticData
  root_faults operation_type = flat_map root_name_faults (option_to_list (root_of operation_type schema.schema_definition))

  abbrev pub roots_faults : List DiagnosticData
  roots_faults = root_faults Query ++ (root_faults Mutation ++ root_faults Subscription)

  -- the schema as a whole
  abbrev pub schema_definition_faults : List DiagnosticData
  schema_definition_faults =
      directive_faults TypesAndScalars schema.types at.Schema schema.directive_definitions schema.schema_definition.directives
      ++ (query_root_operation_type schema.schema_definition ++ (roots_faults ++ duplicate_root_operation_type schema.types schema.schema_definition))

  -- a directive that is not built in
  abbrev pub directive_definition_faults : DirectiveDefinition → List DiagnosticData
  directive_definition_faults definition =
      if is_written definition.location then reserved_name definition.name ++ arguments_faults schema definition.arguments else []

  abbrev pub directive_definitions_faults : List DiagnosticData
  directive_definitions_faults = flat_map directive_definition_faults schema.directive_definitions

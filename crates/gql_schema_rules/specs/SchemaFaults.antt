-- All that is wrong with a schema: what each rule of section 3 of GraphQL October 2021 says of its nodes.
use Rattle.std.specs.Prelude.{◌≡◌, ◌⊎◌, List, ◌++◌}
use Rattle.gql_diag.specs.List.{IsStableSort}
use Rattle.gql_diag.specs.Order.{list_order}
use Rattle.gql_diag_messages.specs.declared.diagnostic_data.DiagnosticData.{DiagnosticData}
use Rattle.gql_schema_rules.specs.RecursiveDirectiveDefinition.{AreRecursiveDirectives}
use Rattle.gql_schema_rules.specs.RecursiveInputObjectDefinition.{AreRecursiveInputObjects}
use Rattle.gql_schema_rules.specs.RecursiveInterfaceDefinition.{AreRecursiveInterfaces}
use Rattle.gql_schema_rules_parts.specs.InterfaceRules.{interfaces_faults}
use Rattle.gql_schema_rules_parts.specs.SchemaRules.{schema_definition_faults, directive_definitions_faults}
use Rattle.gql_schema_rules_parts.specs.TypeRules.{types_faults}
use Rattle.gql_diag.specs.Taken.{HasListedSome}
use Rattle.gql_schema_types.specs.declared.schema.Schema.{Schema}

-- what the rules on single nodes say
abbrev pub parts_faults : Schema → List DiagnosticData
parts_faults schema = ((schema_definition_faults schema ++ directive_definitions_faults schema) ++ types_faults schema) ++ interfaces_faults schema.types

-- with what the rules on cycles and chains say
pub record AreSchemaFaults (schema : Schema) (faults : List DiagnosticData) : Type 0 where
  pub interfaces : List DiagnosticData
  pub are_interfaces : AreRecursiveInterfaces schema.types interfaces
  pub input_objects : List DiagnosticData
  pub are_input_objects : AreRecursiveInputObjects schema.types input_objects
  pub directives : List DiagnosticData
  pub are_directives : AreRecursiveDirectives schema.directive_definitions schema.types directives
  pub whole : faults ≡ ((parts_faults schema ++ interfaces) ++ input_objects) ++ directives

-- a list that had the first diagnostics and now has the second, with all the faults of the schema
abbrev pub HasListedAllFaults : Schema → List DiagnosticData → List DiagnosticData → Type 0
HasListedAllFaults schema old new = (faults : List DiagnosticData) × AreSchemaFaults schema faults × IsStableSort list_order (old ++ faults) new

-- the same with nothing more than it had, or with some of the faults of the schema
abbrev pub HasListedSomeFaults : Schema → List DiagnosticData → List DiagnosticData → Type 0
HasListedSomeFaults schema old new = (new ≡ old) ⊎ ((faults : List DiagnosticData) × AreSchemaFaults schema faults × HasListedSome old faults new)

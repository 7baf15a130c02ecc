-- An operation type has one root type: section 3.3.1 of GraphQL October 2021.
use Rattle.std.specs.Prelude.{ℕ, List, [], ◌∷◌, ◌++◌, codes}
use Rattle.std.specs.Option.{option_map_or}
use Rattle.gql_ast_base.specs.declared.operation_type.OperationType.{OperationType}
use Rattle.gql_ast_base.specs.declared.operation_type.OperationType.TheVariants.{Query, Mutation, Subscription}
use Rattle.gql_diag_messages.specs.declared.rule.Rule.TheVariants.{DuplicateRootOperation}
use Rattle.gql_diag_messages.specs.declared.diagnostic_data.DiagnosticData.{DiagnosticData}
use Rattle.gql_schema_types.specs.Schemas.{root_of}
use Rattle.gql_schema_types.specs.declared.schema.SchemaDefinition.{SchemaDefinition}
use Rattle.gql_schema_build.specs.Faults.{fault}
use Rattle.gql_schema_build.specs.Roots.{Root, with_root}

abbrev pub keyword : OperationType → List ℕ
keyword Query = codes "query"
keyword Mutation = codes "mutation"
keyword Subscription = codes "subscription"

abbrev pub duplicate_root_operation : SchemaDefinition → Root → List DiagnosticData
duplicate_root_operation d root =
    option_map_or (λ first. fault DuplicateRootOperation (keyword root.0 ∷ []) root.1.location first.location ∷ []) (root_of root.0 d) []

-- one for each root whose operation type had one before
abbrev pub duplicate_root_operations : SchemaDefinition → List Root → List DiagnosticData
duplicate_root_operations d [] = []
duplicate_root_operations d (root ∷ roots) = duplicate_root_operation d root ++ duplicate_root_operations (with_root d root) roots

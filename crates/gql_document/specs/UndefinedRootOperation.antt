-- An operation has a root type: section 3.3.1 of GraphQL October 2021. `operation_faults` of Build.antt says where it is broken.
use Rattle.std.specs.Prelude.{ℕ, List, [], ◌∷◌, Option, None, codes}
use Rattle.gql_ast_base.specs.Names.{Named}
use Rattle.gql_ast_base.specs.declared.operation_type.OperationType.{OperationType}
use Rattle.gql_ast_base.specs.declared.operation_type.OperationType.TheVariants.{Query, Mutation, Subscription}
use Rattle.gql_ast.specs.declared.operation.OperationDefinition.{OperationDefinition}
use Rattle.gql_diag_messages.specs.declared.rule.Rule.TheVariants.{UndefinedRootOperation}
use Rattle.gql_diag_messages.specs.declared.diagnostic_data.DiagnosticData.{DiagnosticData}
use Rattle.gql_schema_types.specs.Schemas.{root_of}
use Rattle.gql_schema_types.specs.declared.schema.Schema.{Schema}
use Rattle.gql_document.specs.Faults.{fault}

abbrev pub keyword : OperationType → List ℕ
keyword Query = codes "query"
keyword Mutation = codes "mutation"
keyword Subscription = codes "subscription"

-- the name of the root type of an operation
abbrev pub root_type : Schema → OperationDefinition → Option Named
root_type schema operation = root_of operation.operation_type schema.schema_definition

-- that there is none
abbrev pub undefined_root_operation : OperationDefinition → DiagnosticData
undefined_root_operation operation = fault UndefinedRootOperation (keyword operation.operation_type ∷ []) operation.location None

-- What the full query is answered with on a schema: sections 4 and 6 of GraphQL October 2021.
use Rattle.std.specs.Prelude.{◌≡◌, [], Option, Some, None}
use Rattle.std.specs.Prelude.{option_and_then, codes}
use Rattle.std.specs.Map.{lookup}
use Rattle.std.specs.Str.{bytes_eq}
use Rattle.jb_tree.specs.declared.value.Value.{Value}
use Rattle.jb_tree.specs.Value.{object_members}
use Rattle.gql_document_types.specs.ChosenOperation.{chosen}
use Rattle.gql_document_types.specs.Spreads.{AreAcyclic}
use Rattle.gql_document_types.specs.declared.document.ExecutableDocument.{ExecutableDocument}
use Rattle.gql_document_types.specs.declared.operation.Operation.{Operation}
use Rattle.gql_exec.specs.Partial.{request_of_schema}
use Rattle.gql_exec.specs.Thing.{of_user}
use Rattle.gql_exec.specs.Response.{IsExecuted}
use Rattle.gql_parser.specs.DocumentAnswers.{IsBuiltOf}
use Rattle.gql_response.specs.Response.{data_value}
use Rattle.gql_response.specs.declared.execution_response.ExecutionResponse.{ExecutionResponse}
use Rattle.gql_schema_types.specs.Schemas.{object_of}
use Rattle.gql_schema_types.specs.declared.schema.Schema.{Schema}
use Rattle.gql_schema_types.specs.declared.types.ObjectType.{ObjectType}
use Rattle.gql_client_schema.specs.Query.{full_query}

-- the document that the query's text builds against the schema without a fault, in which no fragment leads back to itself
pub record IsQueryOn (schema : Schema) (document : ExecutableDocument) : Type 0 where
  pub built : IsBuiltOf schema full_query document
  pub acyclic : AreAcyclic document.fragments

-- the response is what execution gives of its one operation with introspection on, from an object that leaves out each field of its own
pub record IsAnsweredWith (schema : Schema) (document : ExecutableDocument) (response : ExecutionResponse) : Type 0 where
  pub operation : Operation
  pub is_only : chosen None document.operations ≡ Some operation
  pub root : ObjectType
  pub is_root : object_of schema operation.selection_set.ty.text ≡ Some root
  pub executed : IsExecuted (request_of_schema schema document []) root (of_user schema tt) operation.selection_set.selections response

-- Executed on the schema, the full query gives these data without errors, the order of members included.
pub record GivesAgain (schema : Schema) (given : Option Value) : Type 0 where
  pub document : ExecutableDocument
  pub query : IsQueryOn schema document
  pub response : ExecutionResponse
  pub answers : IsAnsweredWith schema document response
  pub no_errors : response.errors ≡ []
  pub again : given ≡ Some (data_value response.root)

-- the data of an answer
abbrev pub data_in : Value → Option Value
data_in value = option_and_then (lookup (bytes_eq (codes "data"))) (object_members value)

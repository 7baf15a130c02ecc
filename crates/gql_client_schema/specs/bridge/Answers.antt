-- What only private clauses and proofs cite, beside `Answers`.
use Rattle.std.specs.Prelude.{◌≡◌, [], Option, Some, None}
use Rattle.jb_tree.specs.declared.value.Value.{Value}
use Rattle.gql_document_types.specs.declared.document.ExecutableDocument.{ExecutableDocument}
use Rattle.gql_parser.specs.DocumentAnswers.{IsBuiltOf}
use Rattle.gql_response.specs.Response.{data_value}
use Rattle.gql_response.specs.declared.execution_response.ExecutionResponse.{ExecutionResponse}
use Rattle.gql_schema_types.specs.declared.schema.Schema.{Schema}
use Rattle.gql_client_schema.specs.Query.{full_query}
use Rattle.gql_client_schema.specs.Answers.{IsQueryOn, IsAnsweredWith}

-- ---- on the way

abbrev pub IsQueryIn : Schema → Option ExecutableDocument → Type 0
IsQueryIn schema (Some document) = IsQueryOn schema document
IsQueryIn schema None = (document : ExecutableDocument) → IsQueryOn schema document → ⊥

-- the document that the text builds, whether its fragments lead back to themselves or not
abbrev pub IsBuiltIn : Schema → Option ExecutableDocument → Type 0
IsBuiltIn schema (Some document) = IsBuiltOf schema full_query document
IsBuiltIn schema None = (document : ExecutableDocument) → IsBuiltOf schema full_query document → ⊥

-- no errors and these data
pub record IsSame (response : ExecutionResponse) (given : Option Value) : Type 0 where
  pub no_errors : response.errors ≡ []
  pub again : given ≡ Some (data_value response.root)

abbrev pub IsAnswerIn : Schema → ExecutableDocument → Option ExecutionResponse → Type 0
IsAnswerIn schema document (Some response) = IsAnsweredWith schema document response
IsAnswerIn schema document None = (response : ExecutionResponse) → IsAnsweredWith schema document response → ⊥

-- What an example is, and when a response is the one to it.
use Rattle.std.specs.Prelude.{◌≡◌, ℕ, List, [], ◌∷◌, codes}
use Rattle.jb_print.specs.Compact.{compact}
use Rattle.gql_document_types.specs.declared.selection.Selection.{Selection}
use Rattle.gql_response.specs.Response.{response_value}
use Rattle.gql_response.specs.declared.execution_response.ExecutionResponse.{ExecutionResponse}
use Rattle.gql_schema_types.specs.declared.schema.Schema.{Schema}
use Rattle.gql_schema_types.specs.declared.types.ObjectType.{ObjectType}
use Rattle.gql_resolvers.specs.Resolved.{Meaning}
use Rattle.gql_exec.specs.Request.{Request}
use Rattle.gql_exec.specs.Response.{IsExecuted}
use Rattle.gql_exec_laws.specs.Parts.{query_file}

-- the objects of the examples: the root, and one of the type A
pub data Thing : Type 0 where
  root : Thing
  inner : Thing

-- a schema, a query, what the fields of the objects are, and how the response should be printed
pub record Example : Type 0 where
  pub schema : Schema
  pub query : List ℕ
  pub root_type : ObjectType
  pub selections : List Selection
  pub answers : Thing → List ℕ → Meaning Thing
  pub answer : List ℕ

abbrev pub request : Example → Request Thing
request e = record {
  schema = e.schema;
  sources = (query_file, record { path = codes "query.graphql"; source_text = e.query }) ∷ [];
  fragments = [];
  variables = [];
  type_of = λ thing. codes "A";
  answers = λ U thing f arguments. e.answers thing f;
}

-- the response to the example is printed as it should be
pub record IsAnswered (e : Example) : Type 0 where
  pub response : ExecutionResponse
  pub executed : IsExecuted (request e) e.root_type root e.selections response
  pub printed : compact (response_value response) ≡ e.answer

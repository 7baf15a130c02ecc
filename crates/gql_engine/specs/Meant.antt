-- What the texts of a schema and of a query mean, or what is wrong with the first of them that means nothing: sections 2, 3 and 5 of
-- GraphQL October 2021.
use Rattle.std.specs.Prelude.{ℕ, List}
use Rattle.gql_diag.specs.List.{Diagnostics}
use Rattle.gql_parser.specs.DocumentFaults.{DocumentFaults}
use Rattle.gql_parser.specs.DocumentText.{DocumentText}
use Rattle.gql_document_types.specs.declared.document.ExecutableDocument.{ExecutableDocument}
use Rattle.gql_parser.specs.SchemaFaults.{SchemaFaults}
use Rattle.gql_parser.specs.SchemaText.{SchemaText}
use Rattle.gql_schema_types.specs.declared.schema.Schema.{Schema}

-- the one text means this schema, and the other this document against it
pub record AreMeant (schema_text query_text : List ℕ) (schema : Schema) (document : ExecutableDocument) : Type 0 where
  pub is_schema : SchemaText schema_text schema
  pub is_document : DocumentText schema query_text document

-- both texts mean something
pub record Meant (schema_text query_text : List ℕ) : Type 0 where
  pub schema : Schema
  pub document : ExecutableDocument
  pub are : AreMeant schema_text query_text schema document

-- the list is what is wrong with the query's text against the schema that the other text means
pub record IsNoDocument (schema_text query_text : List ℕ) (list : Diagnostics) : Type 0 where
  pub schema : Schema
  pub is_schema : SchemaText schema_text schema
  pub faults : DocumentFaults schema query_text list

-- the list is what is wrong with the first text that means nothing
pub data AreFaults (schema_text query_text : List ℕ) : Diagnostics → Type 0 where
  no_schema : (list : Diagnostics) → SchemaFaults schema_text list → AreFaults schema_text query_text list
  no_document : (list : Diagnostics) → IsNoDocument schema_text query_text list → AreFaults schema_text query_text list

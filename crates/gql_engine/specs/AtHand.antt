-- What is kept of texts that were checked: sections 2, 3 and 5 of GraphQL October 2021.
use Rattle.std.specs.Prelude.{ℕ, List, []}
use Rattle.std.specs.Map.{lookup}
use Rattle.std.specs.Option.{option_map_or}
use Rattle.gql_source.specs.File.{File, Files, is_file}
use Rattle.gql_source.specs.declared.file_id.FileId.{FileId}
use Rattle.gql_document_types.specs.declared.document.ExecutableDocument.{ExecutableDocument}
use Rattle.gql_parser.specs.DocumentText.{DocumentText}
use Rattle.gql_parser.specs.SchemaText.{SchemaText}
use Rattle.gql_schema_types.specs.declared.schema.Schema.{Schema}

-- the texts of a schema and of a query
pub record TwoTexts : Type 0 where
  pub schema : List ℕ
  pub query : List ℕ

-- the text of a file, or none where there is no such file
abbrev pub text_in : FileId → Files → List ℕ
text_in id files = option_map_or (λ (file : File). file.source_text) (lookup (is_file id) files) []

-- the texts that a schema and a document were made of, which they have in their files
abbrev pub schema_text_in : Schema → List ℕ
schema_text_in schema = text_in (record { number = 3 }) schema.sources

abbrev pub query_text_in : ExecutableDocument → List ℕ
query_text_in document = text_in (record { number = 4 }) document.sources

-- against the schema that the one text means, the other means this document
abbrev pub IsDocumentOver : (schema_text query_text : List ℕ) → ExecutableDocument → Type 0
IsDocumentOver schema_text query_text document = (schema : Schema) → SchemaText schema_text schema → DocumentText schema query_text document

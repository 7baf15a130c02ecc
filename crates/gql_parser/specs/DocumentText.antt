-- What the text of a document means against a schema: sections 2 and 5 of GraphQL October 2021.
use Rattle.std.specs.Prelude.{◌≡◌, true, ℕ, List, [], codes}
use Rattle.gql_ast.specs.declared.definition.Definition.{Definition}
use Rattle.gql_ast.specs.declared.document.Document.{Document}
use Rattle.gql_ast_laws.specs.Meant.{IsDocumentOf}
use Rattle.gql_document.specs.Builders.{Taken, with_document, nothing_taken, built, all_faults}
use Rattle.gql_document_types.specs.declared.document.ExecutableDocument.{ExecutableDocument}
use Rattle.gql_parser.specs.FileRead.{no_faults}
use Rattle.gql_parser.specs.Parsers.{Given, given_next, its_file}
use Rattle.gql_parser.specs.Sentences.{IsSentence}
use Rattle.gql_rules.specs.DocumentFaults.{AreDocumentFaults}
use Rattle.gql_schema_types.specs.declared.schema.Schema.{Schema}

-- the text as the file of number 4
abbrev pub its_given : List ℕ → Given
its_given text = given_next 4 (codes "query.graphql") text

-- the operations and fragments of a document against a schema, with its file; definitions of a type system are faults
abbrev pub all_of : Schema → Document → Taken
all_of schema document = with_document (nothing_taken schema) document no_faults true

-- the definitions of the text
pub record AreDefinitions (schema : Schema) (text : List ℕ) (taken : Taken) : Type 0 where
  pub sentence : IsSentence text
  pub definitions : List Definition
  pub mean : IsDocumentOf text (its_given text).file definitions
  pub all : taken ≡ all_of schema (record { sources = its_file (its_given text); definitions = definitions })

-- The text means this document: its definitions build it without a fault, and no rule finds one.
pub record DocumentText (schema : Schema) (text : List ℕ) (document : ExecutableDocument) : Type 0 where
  pub taken : Taken
  pub definitions : AreDefinitions schema text taken
  pub builds : all_faults taken ≡ []
  pub is : document ≡ built taken
  pub holds : AreDocumentFaults schema document []

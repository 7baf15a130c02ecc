-- What the text of a schema means: sections 2 and 3 of GraphQL October 2021.
use Rattle.std.specs.Prelude.{◌≡◌, true, ℕ, List, [], codes}
use Rattle.gql_ast.specs.declared.definition.Definition.{Definition}
use Rattle.gql_ast.specs.declared.document.Document.{Document}
use Rattle.gql_ast_laws.specs.Meant.{IsDocumentOf}
use Rattle.gql_parser.specs.FileRead.{no_faults}
use Rattle.gql_parser.specs.Parsers.{Given, given_next, its_file}
use Rattle.gql_parser.specs.Sentences.{IsSentence}
use Rattle.gql_schema.specs.BuiltInSchema.{IsBuiltIn, built_in_sources}
use Rattle.gql_schema.specs.Builders.{Taken, with_document, nothing_taken, built, all_faults}
use Rattle.gql_schema_build.specs.declared.built_in.BuiltIn.{BuiltIn}
use Rattle.gql_schema_rules.specs.Scalars.{validated}
use Rattle.gql_schema_rules.specs.SchemaFaults.{AreSchemaFaults}
use Rattle.gql_schema_types.specs.declared.schema.Schema.{Schema}

-- the text as the file of number 3
abbrev pub its_given : List ℕ → Given
its_given text = given_next 3 (codes "schema.graphql") text

-- the built-in definitions and those of a document, with their files
abbrev pub all_of : BuiltIn → Document → Taken
all_of built_in document = with_document (nothing_taken built_in_sources built_in) document no_faults true

-- the built-in definitions and those of the text
pub record AreDefinitions (text : List ℕ) (taken : Taken) : Type 0 where
  pub sentence : IsSentence text
  pub definitions : List Definition
  pub mean : IsDocumentOf text (its_given text).file definitions
  pub built_in : BuiltIn
  pub are_built_in : IsBuiltIn built_in
  pub all : taken ≡ all_of built_in (record { sources = its_file (its_given text); definitions = definitions })

-- The text means this schema: its definitions build it without a fault, no rule finds one, and the built-in scalars are as validation leaves them.
pub record SchemaText (text : List ℕ) (schema : Schema) : Type 0 where
  pub taken : Taken
  pub definitions : AreDefinitions text taken
  pub builds : all_faults taken ≡ []
  pub holds : AreSchemaFaults (built taken) []
  pub settled : schema ≡ validated (built taken)

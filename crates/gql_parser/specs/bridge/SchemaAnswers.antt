-- What only private clauses and proofs cite, beside `SchemaAnswers`.
use Rattle.std.specs.Prelude.{◌≡◌, ◌≢◌, ℕ, List, [], Result, Ok, Err}
use Rattle.jb_text.specs.declared.refused.Refused.{Refused}
use Rattle.jb_text.specs.declared.refused.Refused.TheVariants.{Fault, Memory}
use Rattle.gql_ast.specs.declared.document.Document.{Document}
use Rattle.gql_ast_laws.specs.Meant.{IsDocumentOf}
use Rattle.gql_lexer.specs.declared.error.CstError.{CstError}
use Rattle.gql_diag.specs.List.{Diagnostics, IsStableSort}
use Rattle.gql_diag.specs.Order.{list_order}
use Rattle.gql_diag_messages.specs.declared.diagnostic_data.DiagnosticData.{DiagnosticData}
use Rattle.gql_parser.specs.Diagnosed.{list_of}
use Rattle.gql_parser.specs.Parsers.{its_file}
use Rattle.gql_schema.specs.BuiltInSchema.{IsBuiltIn}
use Rattle.gql_schema.specs.Builders.{Taken, built, all_faults}
use Rattle.gql_schema_build.specs.declared.built_in.BuiltIn.{BuiltIn}
use Rattle.gql_schema_rules.specs.Scalars.{validated}
use Rattle.gql_schema_rules.specs.SchemaFaults.{AreSchemaFaults}
use Rattle.gql_schema_types.specs.declared.schema.Schema.{Schema}
use Rattle.gql_parser.specs.SchemaText.{AreDefinitions, all_of, its_given}
use Rattle.gql_parser.specs.SchemaFaults.{SchemaFaults}
use Rattle.gql_parser.specs.Sentences.{IsSentence, StopsAt}

-- ---- phase by phase

-- the schema that the definitions of the text build without a fault
pub record IsBuiltOf (text : List ℕ) (schema : Schema) : Type 0 where
  pub taken : Taken
  pub definitions : AreDefinitions text taken
  pub builds : all_faults taken ≡ []
  pub is : schema ≡ built taken

abbrev pub IsBuildRead : List ℕ → Result Schema (Refused Diagnostics) → Type 0
IsBuildRead text (Ok schema) = IsBuiltOf text schema
IsBuildRead text (Err (Fault list)) = SchemaFaults text list
IsBuildRead text (Err Memory) = Unit {0}

-- the document that the text is, or the one diagnostic that ends its reading, with its file
pub record IsReadOf (text : List ℕ) (document : Document) : Type 0 where
  pub sentence : IsSentence text
  pub sources : document.sources ≡ its_file (its_given text)
  pub means : IsDocumentOf text (its_given text).file document.definitions

pub record IsStoppedOf (text : List ℕ) (list : Diagnostics) : Type 0 where
  pub error : CstError
  pub stops : StopsAt text error
  pub told : list ≡ list_of (its_given text) error

abbrev pub IsDocumentRead : List ℕ → Result Document (Refused Diagnostics) → Type 0
IsDocumentRead text (Ok document) = IsReadOf text document
IsDocumentRead text (Err (Fault list)) = IsStoppedOf text list
IsDocumentRead text (Err Memory) = Unit {0}

-- the built-in definitions and those of a document were taken, and nothing else
pub record HasTaken (document : Document) (taken : Taken) : Type 0 where
  pub built_in : BuiltIn
  pub are_built_in : IsBuiltIn built_in
  pub all : taken ≡ all_of built_in document

-- the schema that these build without a fault, or every fault
pub record IsBuilt (document : Document) (schema : Schema) : Type 0 where
  pub built_in : BuiltIn
  pub are_built_in : IsBuiltIn built_in
  pub builds : all_faults (all_of built_in document) ≡ []
  pub is : schema ≡ built (all_of built_in document)

pub record IsUnbuilt (document : Document) (list : Diagnostics) : Type 0 where
  pub built_in : BuiltIn
  pub are_built_in : IsBuiltIn built_in
  pub some : all_faults (all_of built_in document) ≢ []
  pub items : IsStableSort list_order (all_faults (all_of built_in document)) list.items
  pub sources : list.sources ≡ (all_of built_in document).sources

abbrev pub IsBuiltBy : Document → Result Schema (Refused Diagnostics) → Type 0
IsBuiltBy document (Ok schema) = IsBuilt document schema
IsBuiltBy document (Err (Fault list)) = IsUnbuilt document list
IsBuiltBy document (Err Memory) = Unit {0}

-- every fault that a rule finds, in the order of lists and with the schema's files
pub record AreRulesBroken (schema : Schema) (list : Diagnostics) : Type 0 where
  pub faults : List DiagnosticData
  pub are : AreSchemaFaults schema faults
  pub some : faults ≢ []
  pub items : IsStableSort list_order faults list.items
  pub sources : list.sources ≡ schema.sources

-- the schema as validation leaves it, where every rule holds
abbrev pub IsRuled : Schema → Result Schema (Refused Diagnostics) → Type 0
IsRuled schema (Ok made) = AreSchemaFaults schema [] × (made ≡ validated schema)
IsRuled schema (Err (Fault list)) = AreRulesBroken schema list
IsRuled schema (Err Memory) = Unit {0}

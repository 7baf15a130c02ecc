-- What comes of a file that is read as a schema and an executable document in one, whose rules are checked too.
use Rattle.std.specs.Prelude.{◌≡◌, ◌≢◌, false, List, [], ◌++◌, Result, Ok, Err, IfOk}
use Rattle.jb_text.specs.declared.refused.Refused.{Refused}
use Rattle.jb_text.specs.declared.refused.Refused.TheVariants.{Fault, Memory}
use Rattle.gql_source.specs.File.{Files}
use Rattle.gql_ast.specs.declared.document.Document.{Document}
use Rattle.gql_diag.specs.List.{Diagnostics, IsStableSort}
use Rattle.gql_diag.specs.Order.{list_order}
use Rattle.gql_diag_messages.specs.declared.diagnostic_data.DiagnosticData.{DiagnosticData}
use Rattle.gql_document.specs.Builders as document
use Rattle.gql_document_types.specs.declared.document.ExecutableDocument.{ExecutableDocument}
use Rattle.gql_rules.specs.DocumentFaults.{AreDocumentFaults, AreFirstOrAll}
use Rattle.gql_schema.specs.Builders as schema
use Rattle.gql_schema.specs.BuiltInSchema.{IsBuiltIn, built_in_sources}
use Rattle.gql_schema_build.specs.declared.built_in.BuiltIn.{BuiltIn}
use Rattle.gql_schema_rules.specs.Scalars.{validated}
use Rattle.gql_schema_rules.specs.SchemaFaults.{AreSchemaFaults}
use Rattle.gql_schema_types.specs.declared.schema.Schema.{Schema}
use Rattle.gql_parser.specs.FileRead.{IsFileRead, no_faults}
use Rattle.gql_parser.specs.Parsers.{ParserState, Given}

-- ---- both builds

-- what the builder of schemas takes: the built-in definitions, and what the file is read as; operations and fragments are passed over
abbrev pub schema_taken : BuiltIn → Document → Diagnostics → schema.Taken
schema_taken built_in file errors = schema.with_document (schema.nothing_taken built_in_sources built_in) file errors false

-- what the builder of documents takes against that schema: definitions of a type system are passed over
abbrev pub document_taken : Schema → Document → document.Taken
document_taken against file = document.with_document (document.nothing_taken against) file no_faults false

-- what a file builds, and every fault of both builds, those that the file was read with included
pub record AreBuilt (file : Document) (errors : Diagnostics) (its_schema : Schema) (its_document : ExecutableDocument)
    (faults : List DiagnosticData) : Type 0 where
  pub built_in : BuiltIn
  pub meant : IsBuiltIn built_in
  pub schema_is : its_schema ≡ schema.built (schema_taken built_in file errors)
  pub document_is : its_document ≡ document.built (document_taken its_schema file)
  pub all : faults ≡ schema.all_faults (schema_taken built_in file errors) ++ document.all_faults (document_taken its_schema file)

-- ---- the rules behind the builds

-- what the rules on schemas say alone; or, where that is nothing, what the rules on documents say
pub record AreRuleFaults (its_schema : Schema) (its_document : ExecutableDocument) (faults : List DiagnosticData) : Type 0 where
  pub broken : List DiagnosticData
  pub are_broken : AreSchemaFaults its_schema broken
  pub whole : AreFirstOrAll (AreDocumentFaults (validated its_schema) its_document) broken faults

-- the faults of the builds alone; or, where there are none, what the rules say
abbrev pub AreMixedFaults : Schema → ExecutableDocument → List DiagnosticData → List DiagnosticData → Type 0
AreMixedFaults its_schema its_document builds faults = AreFirstOrAll (AreRuleFaults its_schema its_document) builds faults

-- ---- answers. Want of memory tells nothing

-- such diagnostics, of which there are some, in the order of lists and with these files
pub record AreTold (AreFaults : List DiagnosticData → Type 0) (files : Files) (list : Diagnostics) : Type 0 where
  pub faults : List DiagnosticData
  pub are : AreFaults faults
  pub some : faults ≢ []
  pub items : IsStableSort list_order faults list.items
  pub sources : list.sources ≡ files

-- there is no such diagnostic, or such are told
abbrev pub IsHeld : {X : Type 0} → (List DiagnosticData → Type 0) → Files → Result X (Refused Diagnostics) → Type 0
IsHeld AreFaults files (Ok made) = AreFaults []
IsHeld AreFaults files (Err (Fault list)) = AreTold AreFaults files list
IsHeld AreFaults files (Err Memory) = Unit {0}

-- The file builds these, and they are answered, the schema as validation leaves it, exactly where nothing is wrong with them.
pub record IsMixed (parser : ParserState) (given : Given) (answer : Result (Schema × ExecutableDocument) (Refused Diagnostics)) : Type 0 where
  pub file : Document
  pub errors : Diagnostics
  pub read : IsFileRead parser given file errors
  pub its_schema : Schema
  pub its_document : ExecutableDocument
  pub builds : List DiagnosticData
  pub built : AreBuilt file errors its_schema its_document builds
  pub held : IsHeld (AreMixedFaults its_schema its_document builds) its_schema.sources answer
  pub made : IfOk answer (λ made. (made.0 ≡ validated its_schema) × (made.1 ≡ its_document))

abbrev pub IsMixedAnswer : ParserState → Given → Result (Schema × ExecutableDocument) (Refused Diagnostics) → Type 0
IsMixedAnswer parser given (Ok made) = IsMixed parser given (Ok made)
IsMixedAnswer parser given (Err (Fault list)) = IsMixed parser given (Err (Fault list))
IsMixedAnswer parser given (Err Memory) = Unit {0}

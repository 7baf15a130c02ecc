-- What a file builds as a schema and an executable document in one, step by step.
use Rattle.std.specs.Prelude.{◌≡◌, List, ◌++◌, Result, IfOk, OnOk}
use Rattle.jb_text.specs.declared.refused.Refused.{Refused}
use Rattle.gql_ast.specs.declared.document.Document.{Document}
use Rattle.gql_diag.specs.List.{Diagnostics, IsStableSort}
use Rattle.gql_diag.specs.Order.{list_order}
use Rattle.gql_diag_messages.specs.declared.diagnostic_data.DiagnosticData.{DiagnosticData}
use Rattle.gql_document.specs.Builders as document
use Rattle.gql_document_types.specs.declared.document.ExecutableDocument.{ExecutableDocument}
use Rattle.gql_schema.specs.Builders as schema
use Rattle.gql_schema.specs.BuiltInSchema.{IsBuiltIn}
use Rattle.gql_schema_build.specs.declared.built_in.BuiltIn.{BuiltIn}
use Rattle.gql_schema_types.specs.declared.schema.Schema.{Schema}
use Rattle.gql_schema_rules.specs.Scalars.{validated}
use Rattle.gql_parser.specs.MixedRead.{AreMixedFaults, IsHeld, document_taken, schema_taken}

-- the schema of a file, and every fault of its build, in order
pub record IsSchemaBuilt (file : Document) (errors : Diagnostics) (its_schema : Schema) (items : List DiagnosticData) : Type 0 where
  pub built_in : BuiltIn
  pub meant : IsBuiltIn built_in
  pub is : its_schema ≡ schema.built (schema_taken built_in file errors)
  pub items_are : IsStableSort list_order (schema.all_faults (schema_taken built_in file errors)) items

-- the document of a file against a schema, and every fault of its build, in order
pub record IsDocumentBuilt (against : Schema) (file : Document) (its_document : ExecutableDocument) (items : List DiagnosticData) : Type 0 where
  pub is : its_document ≡ document.built (document_taken against file)
  pub items_are : IsStableSort list_order (document.all_faults (document_taken against file)) items

-- what is answered of that document, where the schema's build found these faults; answered, the schema is as validation leaves it
pub record IsDocumentRuled (old new : Schema) (file : Document) (firsts : List DiagnosticData) (answer : Result ExecutableDocument (Refused Diagnostics))
    : Type 0 where
  pub its_document : ExecutableDocument
  pub is : its_document ≡ document.built (document_taken old file)
  pub held : IsHeld (AreMixedFaults old its_document (firsts ++ document.all_faults (document_taken old file))) old.sources answer
  pub made : IfOk answer (λ made. made ≡ its_document)
  pub settled : OnOk answer (new ≡ validated old)

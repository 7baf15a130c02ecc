-- What each step of reading a schema and a document in one leaves for the next.
use Rattle.std.proofs.Common.{◌≡◌, List, [], ◌++◌, Result, Ok, Err, IsErrAnd, refl, sym, ◌∙◌, subst}
use Rattle.jb_text.specs.declared.refused.Refused.{Refused}
use Rattle.jb_text.specs.declared.refused.Refused.TheVariants.{Fault, Memory}
use Rattle.gql_ast.specs.declared.document.Document.{Document}
use Rattle.gql_diag.specs.List.{Diagnostics, IsStableSort}
use Rattle.gql_diag.specs.Order.{list_order}
use Rattle.gql_diag.specs.declared.with_errors.WithErrors.{WithErrors}
use Rattle.gql_diag_messages.specs.declared.diagnostic_data.DiagnosticData.{DiagnosticData}
use Rattle.gql_document.specs.Builders as document
use Rattle.gql_document_types.specs.declared.document.ExecutableDocument.{ExecutableDocument}
use Rattle.gql_parser.specs.FileRead.{IsFileRead}
use Rattle.gql_parser.specs.Parsers.{ParserState, Given}
use Rattle.gql_schema.specs.Builders as schema
use Rattle.gql_schema.specs.BuiltInSchema.{IsBuiltIn}
use Rattle.gql_schema_build.specs.declared.built_in.BuiltIn.{BuiltIn}
use Rattle.gql_schema_rules.specs.Scalars.{validated}
use Rattle.gql_schema_types.specs.declared.schema.Schema.{Schema}
use Rattle.gql_source.specs.File.{Files}
use Rattle.gql_parser.specs.bridge.MixedBuilt.{IsDocumentBuilt, IsDocumentRuled, IsSchemaBuilt}
use Rattle.gql_parser.specs.MixedRead.{AreBuilt, AreMixedFaults, IsHeld, IsMixedAnswer, document_taken, schema_taken}
use Rattle.gql_parser.proofs.Mixed.{handed_on, no_memory}
use Rattle.gql_parser.proofs.Sorts.{none_sorted, sorted_joined}

-- what checking says of what was built, whatever the builds found
abbrev pub AreChecked : {X : Type 0} → Schema → ExecutableDocument → Diagnostics → Result X (Refused Diagnostics) → Type 0
AreChecked its_schema its_document list answer =
    (builds : List DiagnosticData) → IsStableSort list_order builds list.items → IsHeld (AreMixedFaults its_schema its_document builds) list.sources answer

-- ---- the builds

module _ (file : Document) (errors : Diagnostics) (built_in : BuiltIn) (taken : schema.Taken) (meant : IsBuiltIn built_in)
    (is : taken ≡ schema_taken built_in file errors) where
  pub schema_well : (made : Schema) (items : List DiagnosticData) → schema.IsAnswer taken (Ok made) → items ≡ [] → IsSchemaBuilt file errors made items
  schema_well made items answer none =
      let judged = (subst (λ (t : schema.Taken). schema.IsAnswer t (Ok made)) is answer).judged in
      record {
        built_in = built_in;
        meant = meant;
        is = judged.1;
        items_are = subst (λ (l : List DiagnosticData). IsStableSort list_order (schema.all_faults (schema_taken built_in file errors)) l) (sym none)
            (none_sorted list_order (schema.all_faults (schema_taken built_in file errors)) judged.0);
      }

  pub schema_badly : (refusal : WithErrors Schema) (made : Schema) (items : List DiagnosticData) → schema.IsAnswer taken (Err (Fault refusal))
      → made ≡ refusal.partial → items ≡ refusal.errors.items → IsSchemaBuilt file errors made items
  schema_badly refusal made items answer whole same =
      let judged = (subst (λ (t : schema.Taken). schema.IsAnswer t (Err (Fault refusal))) is answer).judged in
      record {
        built_in = built_in;
        meant = meant;
        is = whole ∙ judged.1.0;
        items_are = subst (λ (l : List DiagnosticData). IsStableSort list_order (schema.all_faults (schema_taken built_in file errors)) l) (sym same) judged.1.1.0;
      }

module _ (against : Schema) (file : Document) (taken : document.Taken) (is : taken ≡ document_taken against file) where
  pub document_well : (made : ExecutableDocument) (items : List DiagnosticData) → document.IsAnswer taken (Ok made) → items ≡ []
      → IsDocumentBuilt against file made items
  document_well made items answer none =
      let judged = (subst (λ (t : document.Taken). document.IsAnswer t (Ok made)) is answer).judged in
      record {
        is = judged.1;
        items_are = subst (λ (l : List DiagnosticData). IsStableSort list_order (document.all_faults (document_taken against file)) l) (sym none)
            (none_sorted list_order (document.all_faults (document_taken against file)) judged.0);
      }

  pub document_badly : (refusal : WithErrors ExecutableDocument) (made : ExecutableDocument) (items : List DiagnosticData)
      → document.IsAnswer taken (Err (Fault refusal)) → made ≡ refusal.partial → items ≡ refusal.errors.items → IsDocumentBuilt against file made items
  document_badly refusal made items answer whole same =
      let judged = (subst (λ (t : document.Taken). document.IsAnswer t (Err (Fault refusal))) is answer).judged in
      record {
        is = whole ∙ judged.1.0;
        items_are = subst (λ (l : List DiagnosticData). IsStableSort list_order (document.all_faults (document_taken against file)) l) (sym same) judged.1.1.0;
      }

-- ---- the rules behind the builds

module _ (old new : Schema) (file : Document) (firsts : List DiagnosticData) where
  -- nothing is answered when out of memory
  pub no_memory_for : (answer : Result ExecutableDocument (Refused Diagnostics)) → IsErrAnd answer (λ f. f ≡ Memory) → IsDocumentRuled old new file firsts answer
  no_memory_for (Ok made) is = absurd is
  no_memory_for (Err f) is = record {
    its_document = document.built (document_taken old file);
    is = refl;
    held = no_memory (AreMixedFaults old (document.built (document_taken old file)) (firsts ++ document.all_faults (document_taken old file))) old.sources
        ExecutableDocument (Err f) is;
    made = tt;
    settled = tt;
  }

  module _ (its_document : ExecutableDocument) (items others : List DiagnosticData) (list : Diagnostics) (d : IsDocumentBuilt old file its_document others)
      (started : IsStableSort list_order firsts items) (sort : IsStableSort list_order (items ++ others) list.items) (sources : list.sources ≡ old.sources) where
    abbrev Faults : List DiagnosticData → Type 0
    Faults = AreMixedFaults old its_document (firsts ++ document.all_faults (document_taken old file))

    held_with : {X : Type 0} (answer : Result X (Refused Diagnostics)) → AreChecked old its_document list answer → IsHeld Faults old.sources answer
    held_with answer checked =
        subst (λ (f : Files). IsHeld Faults f answer) sources
        (checked (firsts ++ document.all_faults (document_taken old file))
        (sorted_joined list_order firsts (document.all_faults (document_taken old file)) items others list.items started d.items_are sort))

    pub document_holds : AreChecked {X = Unit {0}} old its_document list (Ok tt) → new ≡ validated old → IsDocumentRuled old new file firsts (Ok its_document)
    document_holds checked settled = record {
      its_document = its_document;
      is = d.is;
      held = held_with {X = Unit {0}} (Ok tt) checked;
      made = refl;
      settled = settled;
    }

    pub document_refused : (e : Refused Diagnostics) (answer : Result ExecutableDocument (Refused Diagnostics))
        → AreChecked {X = Unit {0}} old its_document list (Err e) → IsErrAnd answer (λ f. f ≡ e) → IsDocumentRuled old new file firsts answer
    document_refused e (Ok made) checked is = absurd is
    document_refused e (Err f) checked is = record {
      its_document = its_document;
      is = d.is;
      held = handed_on Faults old.sources ExecutableDocument (Unit {0}) e (Err f) is (held_with {X = Unit {0}} (Err e) checked);
      made = tt;
      settled = tt;
    }

-- ---- the answer

pub no_answer : (parser : ParserState) (given : Given) (answer : Result (Schema × ExecutableDocument) (Refused Diagnostics)) → IsErrAnd answer (λ f. f ≡ Memory)
    → IsMixedAnswer parser given answer
no_answer parser given (Ok made) is = absurd is
no_answer parser given (Err f) is = subst (λ (g : Refused Diagnostics). IsMixedAnswer parser given (Err g)) (sym is) tt

module _ (parser : ParserState) (given : Given) (file : Document) (errors : Diagnostics) (read : IsFileRead parser given file errors)
    (its_schema settled : Schema) (items : List DiagnosticData) (s : IsSchemaBuilt file errors its_schema items) where
  abbrev firsts : List DiagnosticData
  firsts = schema.all_faults (schema_taken s.built_in file errors)

  abbrev pub IsRuledFor : Result ExecutableDocument (Refused Diagnostics) → Type 0
  IsRuledFor inner = (faults : List DiagnosticData) → IsStableSort list_order faults items → IsDocumentRuled its_schema settled file faults inner

  both_are : (inner : Result ExecutableDocument (Refused Diagnostics)) (d : IsDocumentRuled its_schema settled file firsts inner)
      → AreBuilt file errors its_schema d.its_document (firsts ++ document.all_faults (document_taken its_schema file))
  both_are inner d = record { built_in = s.built_in; meant = s.meant; schema_is = s.is; document_is = d.is; all = refl }

  pub both_hold : (its_document : ExecutableDocument) (made : Schema × ExecutableDocument) → IsRuledFor (Ok its_document) → made.0 ≡ settled → made.1 ≡ its_document
      → IsMixedAnswer parser given (Ok made)
  both_hold its_document made ruled schema_is document_is =
      let d = ruled firsts s.items_are in
      record {
        file = file;
        errors = errors;
        read = read;
        its_schema = its_schema;
        its_document = d.its_document;
        builds = firsts ++ document.all_faults (document_taken its_schema file);
        built = both_are (Ok its_document) d;
        held = d.held;
        made = (schema_is ∙ d.settled, document_is ∙ d.made);
      }

  refused_for : (e : Refused Diagnostics) → IsDocumentRuled its_schema settled file firsts (Err e) → IsMixedAnswer parser given (Err e)
  refused_for (Fault list) d = record {
    file = file;
    errors = errors;
    read = read;
    its_schema = its_schema;
    its_document = d.its_document;
    builds = firsts ++ document.all_faults (document_taken its_schema file);
    built = both_are (Err (Fault list)) d;
    held = d.held;
    made = tt;
  }
  refused_for Memory d = tt

  pub both_refused : (e : Refused Diagnostics) (answer : Result (Schema × ExecutableDocument) (Refused Diagnostics)) → IsRuledFor (Err e)
      → IsErrAnd answer (λ f. f ≡ e) → IsMixedAnswer parser given answer
  both_refused e (Ok made) ruled is = absurd is
  both_refused e (Err f) ruled is = subst (λ (g : Refused Diagnostics). IsMixedAnswer parser given (Err g)) (sym is) (refused_for e (ruled firsts s.items_are))

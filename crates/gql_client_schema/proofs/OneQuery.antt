-- A text builds one document at most against a schema, and none where the build has a fault.
use Rattle.std.proofs.Common.{◌≡◌, inl, inr, ℕ, List, [], ◌∷◌, codes, true, Result, Ok, Err, refl, sym, ◌∙◌, ap, subst}
use Rattle.jb_text.specs.declared.refused.Refused.TheVariants.{Fault}
use Rattle.gql_ast.specs.declared.definition.Definition.{Definition}
use Rattle.gql_ast.specs.declared.document.Document.{Document}
use Rattle.gql_ast_laws.specs.Meant.{IsDocumentOf}
use Rattle.gql_cst.specs.declared.limits.Limits.{Limits}
use Rattle.gql_diag.specs.List.{Diagnostics}
use Rattle.gql_diag.specs.declared.with_errors.WithErrors.{WithErrors}
use Rattle.gql_document.specs.Builders.{Taken, with_document, nothing_taken, built, all_faults}
use Rattle.gql_document_types.specs.declared.document.ExecutableDocument.{ExecutableDocument}
use Rattle.gql_grammar.specs.declared.rule.Rule.TheVariants as rule
use Rattle.gql_parser.specs.DocumentAnswers.{IsBuiltOf}
use Rattle.gql_parser.specs.DocumentText.{AreDefinitions, all_of, its_given}
use Rattle.gql_parser.specs.ExecutablesRead.{IsBuilt}
use Rattle.gql_parser.specs.FileRead.{IsFileRead, IsFileStopped, IsFileWhole, no_document}
use Rattle.gql_parser.specs.Parsers.{Given, ParserState, fresh, given_next, its_file}
use Rattle.gql_parser.specs.Readings.{IsSentenceWithin}
use Rattle.gql_parser.specs.Diagnosed.{list_of}
use Rattle.gql_schema_types.specs.declared.schema.Schema.{Schema}
use Rattle.gql_source.specs.File.{Files}
use Rattle.gql_source.specs.declared.file_id.FileId.{FileId}

abbrev pub DocumentsLaw : Type 0
DocumentsLaw = (text : List ℕ) (file : FileId) (one other : List Definition) → IsDocumentOf text file one → IsDocumentOf text file other → one ≡ other

module _ (schema : Schema) (text : List ℕ) where
  one_listing : DocumentsLaw → (one other : Taken) → AreDefinitions schema text one → AreDefinitions schema text other → one ≡ other
  one_listing law one other h k =
      h.all
      ∙ ap (λ (found : List Definition). all_of schema (record { sources = its_file (its_given text); definitions = found }))
      (law text (its_given text).file h.definitions k.definitions h.mean k.mean) ∙ sym k.all

  -- it is one document
  pub one_built : DocumentsLaw → (one other : ExecutableDocument) → IsBuiltOf schema text one → IsBuiltOf schema text other → one ≡ other
  one_built law one other h k = h.is ∙ ap built (one_listing law h.taken k.taken h.definitions k.definitions) ∙ sym k.is

  module _ (parser : ParserState) (limits : parser.limits ≡ fresh.limits) where
    -- what was taken of a text that was read to its end
    whole_taken : (document : Document) (errors : Diagnostics) (taken : Taken) → IsFileWhole parser (its_given text) document errors
        → taken ≡ with_document (nothing_taken schema) document errors true → AreDefinitions schema text taken
    whole_taken document errors taken whole is = record {
      sentence = subst (λ (l : Limits). IsSentenceWithin l rule.Document text) limits whole.read.whole.sentence;
      definitions = document.definitions;
      mean = whole.read.means;
      all = is
          ∙ ap (λ (told : Diagnostics). with_document (nothing_taken schema) document told true) whole.told
          ∙ ap (λ (files : Files). all_of schema (record { sources = files; definitions = document.definitions })) whole.read.sources;
    }

    no_sentence : (document : Document) (errors : Diagnostics) → IsFileStopped parser (its_given text) document errors
        → IsSentenceWithin fresh.limits rule.Document text → ⊥
    no_sentence document errors stopped sentence =
        stopped.stopped.none (subst (λ (l : Limits). IsSentenceWithin l rule.Document text) (sym limits) sentence)

    -- where there were faults there is none
    pub none_built : DocumentsLaw → (refusal : WithErrors ExecutableDocument) → IsBuilt parser (its_given text) schema (Err (Fault refusal))
        → (document : ExecutableDocument) → IsBuiltOf schema text document → ⊥
    none_built law refusal b document h = by_reading b.takes.read
      where
        by_reading : IsFileRead parser (its_given text) b.takes.document b.takes.errors → ⊥
        by_reading (inl whole) =
            b.answers.judged.0
            (ap all_faults (one_listing law b.taken h.taken (whole_taken b.takes.document b.takes.errors b.taken whole b.takes.taken) h.definitions) ∙ h.builds)
        by_reading (inr stopped) = no_sentence b.takes.document b.takes.errors stopped h.definitions.sentence

-- A text means one document at most against a schema, and none where something is wrong with it.
use Rattle.std.proofs.Common.{◌≡◌, ℕ, List, [], ◌∷◌, refl, sym, ◌∙◌, ap, subst, arith}
use Rattle.std.specs.List.Sorted.{IsPermutation, IsSorted}
use Rattle.std.proofs.lemmas.List.Sorted.{IsPermutation-refl, IsPermutation-sym, IsPermutation-trans}
use Rattle.gql_ast.specs.declared.definition.Definition.{Definition}
use Rattle.gql_ast_laws.specs.Meant.{IsDocumentOf}
use Rattle.gql_lexer.specs.declared.error.CstError.{CstError}
use Rattle.gql_diag.specs.List.{Diagnostics}
use Rattle.gql_diag.specs.Order.{list_order}
use Rattle.gql_diag_messages.specs.declared.diagnostic_data.DiagnosticData.{DiagnosticData}
use Rattle.gql_document.specs.Builders.{Taken, built, all_faults}
use Rattle.gql_document_types.specs.declared.document.ExecutableDocument.{ExecutableDocument}
use Rattle.gql_parser.specs.Diagnosed.{list_of}
use Rattle.gql_parser.specs.Parsers.{its_file}
use Rattle.gql_rules.specs.DocumentFaults.{AreDocumentFaults}
use Rattle.gql_schema_types.specs.declared.schema.Schema.{Schema}
use Rattle.gql_source.specs.declared.file_id.FileId.{FileId}
use Rattle.gql_parser.specs.DocumentFaults.{DocumentFaults, no_sentence, no_build, broken, IsListOf}
use Rattle.gql_parser.specs.Sentences.{StopsAt}
use Rattle.gql_parser.specs.DocumentText.{AreDefinitions, DocumentText, all_of, its_given}
use Rattle.gql_parser.specs.SameFaults.{TellTheSame}
use Rattle.gql_parser.proofs.One.{one_stop}
use Rattle.gql_cst.proofs.OneError.{OneStands, WordsLaw}
use Rattle.gql_parser.proofs.OneTelling.{faults_once}
use Rattle.gql_parser.proofs.Phases.{empty_back}
use Rattle.gql_parser.proofs.Tied.{same_listing}

abbrev pub OneDocument : Type 0
OneDocument = (text : List ℕ) (file : FileId) (one other : List Definition) → IsDocumentOf text file one → IsDocumentOf text file other → one ≡ other

one_taken : OneDocument → (schema : Schema) (text : List ℕ) (one other : Taken) → AreDefinitions schema text one → AreDefinitions schema text other → one ≡ other
one_taken law schema text one other h k =
    h.all
    ∙ ap (λ (ds : List Definition). all_of schema (record { sources = its_file (its_given text); definitions = ds })) (law text (its_given text).file h.definitions k.definitions h.mean k.mean)
    ∙ sym k.all

pub one_document : OneDocument → (schema : Schema) (text : List ℕ) (one other : ExecutableDocument) → DocumentText schema text one → DocumentText schema text other → one ≡ other
one_document law schema text one other h k =
    h.is ∙ ap built (one_taken law schema text h.taken k.taken h.definitions k.definitions) ∙ sym k.is

same_faults : OneDocument → (schema : Schema) (text : List ℕ) (one other : Taken) → AreDefinitions schema text one → AreDefinitions schema text other → all_faults one ≡ [] → all_faults other ≡ []
same_faults law schema text one other h k builds = ap all_faults (one_taken law schema text other one k h) ∙ builds

pub no_faults : OneDocument → (schema : Schema) (text : List ℕ) (document : ExecutableDocument) (list : Diagnostics) → DocumentText schema text document → DocumentFaults schema text list → ⊥
no_faults law schema text document list s (no_sentence error stops) = stops.none s.definitions.sentence
no_faults law schema text document list s (no_build told taken definitions is) = is.some (same_faults law schema text s.taken taken s.definitions definitions s.builds)
no_faults law schema text document list s (broken told taken faults definitions builds are is) =
    let same : document ≡ built taken = s.is ∙ ap built (one_taken law schema text s.taken taken s.definitions definitions) in
    let none : AreDocumentFaults schema (built taken) [] = subst (λ (d : ExecutableDocument). AreDocumentFaults schema d []) same s.holds in
    is.some (empty_back faults [] (faults_once schema (built taken) faults [] are none) refl)

-- ---- and what is wrong with it are the same diagnostics

alone : (item : DiagnosticData) → IsSorted list_order (item ∷ [])
alone item k d low inside = absurd (omega (arith, inside))

told_alike : (text : List ℕ) (faults found : List DiagnosticData) (one other : Diagnostics) → IsPermutation faults found → IsListOf text faults one → IsListOf text found other → TellTheSame one other
told_alike text faults found one other same h k =
    let items : IsPermutation one.items other.items =
    IsPermutation-trans one.items faults other.items (IsPermutation-sym faults one.items h.items.permutation)
    (IsPermutation-trans faults found other.items same k.items.permutation) in
    record { sources = h.sources ∙ sym k.sources; items = items; places = same_listing one.items other.items items h.items.sorted k.items.sorted }

itself_alike : (list : Diagnostics) → IsSorted list_order list.items → TellTheSame list list
itself_alike list sorted =
    record { sources = refl; items = IsPermutation-refl list.items; places = same_listing list.items list.items (IsPermutation-refl list.items) sorted sorted }

stopped_alike : OneStands → WordsLaw → (text : List ℕ) (one other : CstError) → StopsAt text one → StopsAt text other → TellTheSame (list_of (its_given text) one) (list_of (its_given text) other)
stopped_alike stands words text one other h k =
    subst (λ (error : CstError). TellTheSame (list_of (its_given text) one) (list_of (its_given text) error)) (one_stop stands words text one other h k)
    (itself_alike (list_of (its_given text) one) (alone _))

module _ (law : OneDocument) (stands : OneStands) (words : WordsLaw) (schema : Schema) (text : List ℕ) where
  pub one_faults : (one other : Diagnostics) → DocumentFaults schema text one → DocumentFaults schema text other → TellTheSame one other
  one_faults one other (no_sentence e h) (no_sentence f k) = stopped_alike stands words text e f h k
  one_faults one other (no_sentence e h) (no_build list taken definitions is) = absurd (h.none definitions.sentence)
  one_faults one other (no_sentence e h) (broken list taken faults definitions builds are is) = absurd (h.none definitions.sentence)
  one_faults one other (no_build list taken definitions is) (no_sentence f k) = absurd (k.none definitions.sentence)
  one_faults one other (no_build list taken definitions is) (no_build list' taken' definitions' is') =
      told_alike text (all_faults taken) (all_faults taken') list list'
      (subst (λ (t : Taken). IsPermutation (all_faults taken) (all_faults t)) (one_taken law schema text taken taken' definitions definitions') (IsPermutation-refl (all_faults taken))) is is'
  one_faults one other (no_build list taken definitions is) (broken list' taken' faults definitions' builds are is') =
      absurd (is.some (same_faults law schema text taken' taken definitions' definitions builds))
  one_faults one other (broken list taken faults definitions builds are is) (no_sentence f k) = absurd (k.none definitions.sentence)
  one_faults one other (broken list taken faults definitions builds are is) (no_build list' taken' definitions' is') =
      absurd (is'.some (same_faults law schema text taken taken' definitions definitions' builds))
  one_faults one other (broken list taken faults definitions builds are is) (broken list' taken' faults' definitions' builds' are' is') =
      told_alike text faults faults' list list'
      (faults_once schema (built taken') faults faults'
      (subst (λ (t : Taken). AreDocumentFaults schema (built t) faults) (one_taken law schema text taken taken' definitions definitions') are) are') is is'

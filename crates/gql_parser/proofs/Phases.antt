-- What the phases of reading a document's text come to.
use Rattle.std.proofs.Common.{◌≡◌, ◌≢◌, inl, inr, ℕ, List, [], ◌∷◌, ◌++◌, length, get_or, zero, suc, ◌<◌, Result, Ok, Err, IsErrAnd, IsTrue, ◌↔◌, Bool, true, false, refl, sym, ◌∙◌, ap, subst, arith}
use Rattle.std.specs.List.{All}
use Rattle.std.specs.List.Sorted.{IsPermutation}
use Rattle.std.proofs.lemmas.List.Sorted.{IsPermutation-sym, length_permutation, All-permutation}
use Rattle.jb_text.specs.declared.refused.Refused.{Refused}
use Rattle.jb_text.specs.declared.refused.Refused.TheVariants.{Fault, Memory}
use Rattle.gql_ast.specs.declared.document.Document.{Document}
use Rattle.gql_cst.specs.declared.limits.Limits.{Limits}
use Rattle.gql_cst.specs.Parses.{IsReport}
use Rattle.gql_grammar.specs.declared.rule.Rule.TheVariants as rule
use Rattle.gql_lexer.specs.declared.error.CstError.{CstError}
use Rattle.gql_diag.specs.List.{Diagnostics, IsStableSort}
use Rattle.gql_diag.specs.Order.{list_order}
use Rattle.gql_diag.specs.declared.with_errors.WithErrors.{WithErrors}
use Rattle.gql_diag_messages.specs.declared.diagnostic_data.DiagnosticData.{DiagnosticData}
use Rattle.gql_document.specs.Builders.{Taken, with_document, nothing_taken, all_faults}
use Rattle.gql_document_types.specs.declared.document.ExecutableDocument.{ExecutableDocument}
use Rattle.gql_parser.specs.Diagnosed.{diagnostic, list_of}
use Rattle.gql_parser.specs.ExecutablesRead.{IsBuilt}
use Rattle.gql_parser.specs.FileRead.{IsFileRead, IsFileStopped, IsFileWhole, no_document}
use Rattle.gql_parser.specs.Parsers.{ParserState, fresh, its_file}
use Rattle.gql_parser.specs.Readings.{IsSentenceWithin}
use Rattle.gql_rules.specs.DocumentFaults.{AreDocumentFaults, HasListedAllFaults}
use Rattle.gql_schema_types.specs.declared.schema.Schema.{Schema}
use Rattle.gql_source.specs.File.{Files}
use Rattle.gql_parser.specs.DocumentAnswers.{IsBuiltOf, IsDocumentAnswer}
use Rattle.gql_parser.specs.bridge.DocumentAnswers.{IsBuildRead, IsRuled, AreRulesBroken}
use Rattle.gql_parser.specs.DocumentFaults.{DocumentFaults, no_sentence, no_build, broken}
use Rattle.gql_parser.specs.DocumentText.{AreDefinitions, all_of, its_given}

-- ---- a refusal that is handed on

refused : (schema : Schema) (text : List ℕ) (e : Refused Diagnostics) → IsBuildRead schema text (Err e) → IsDocumentAnswer schema text (Err e)
refused schema text (Fault list) told = told
refused schema text Memory told = tt

pub handed_on : (schema : Schema) (text : List ℕ) (result : Result ExecutableDocument (Refused Diagnostics)) (e : Refused Diagnostics) → IsErrAnd result (λ f. f ≡ e)
    → IsBuildRead schema text (Err e) → IsDocumentAnswer schema text result
handed_on schema text (Ok document) e is told = absurd is
handed_on schema text (Err f) e is told = subst (λ (g : Refused Diagnostics). IsDocumentAnswer schema text (Err g)) (sym is) (refused schema text e told)

-- ---- the rules behind the build

the_file : (schema : Schema) (text : List ℕ) (taken : Taken) → AreDefinitions schema text taken → taken.sources ≡ its_file (its_given text)
the_file schema text taken definitions = ap (λ (t : Taken). t.sources) definitions.all

pub document_read : (schema : Schema) (text : List ℕ) (document : ExecutableDocument) (result : Result ExecutableDocument (Refused Diagnostics)) → IsBuiltOf schema text document
    → IsRuled schema document result → IsDocumentAnswer schema text result
document_read schema text document (Ok made) b r = record {
  taken = b.taken;
  definitions = b.definitions;
  builds = b.builds;
  is = r.1 ∙ b.is;
  holds = subst (λ (d : ExecutableDocument). AreDocumentFaults schema d []) (sym r.1) r.0;
}
document_read schema text document (Err (Fault list)) b r =
    broken list b.taken r.faults b.definitions b.builds (subst (λ (d : ExecutableDocument). AreDocumentFaults schema d r.faults) b.is r.are)
    (record { some = r.some; items = r.items; sources = r.sources ∙ ap (λ (d : ExecutableDocument). d.sources) b.is ∙ the_file schema text b.taken b.definitions })
document_read schema text document (Err Memory) b r = tt

-- ---- the build behind the reading

definitions_of : (schema : Schema) (text : List ℕ) (parser : ParserState) (document : Document) (errors : Diagnostics) (taken : Taken) → parser.limits ≡ fresh.limits
    → IsFileWhole parser (its_given text) document errors → taken ≡ with_document (nothing_taken schema) document errors true → AreDefinitions schema text taken
definitions_of schema text parser document errors taken limits whole is = record {
  sentence = subst (λ (l : Limits). IsSentenceWithin l rule.Document text) limits whole.read.whole.sentence;
  definitions = document.definitions;
  mean = whole.read.means;
  all = is
      ∙ ap (λ (e : Diagnostics). with_document (nothing_taken schema) document e true) whole.told
      ∙ ap (λ (files : Files). all_of schema (record { sources = files; definitions = document.definitions })) whole.read.sources;
}

-- what a builder has taken of a text that is no sentence
abbrev stopped_at : Schema → List ℕ → CstError → Taken
stopped_at schema text error = with_document (nothing_taken schema) no_document (list_of (its_given text) error) true

taken_stopped : (schema : Schema) (text : List ℕ) (parser : ParserState) (document : Document) (errors : Diagnostics) (taken : Taken)
    → (stopped : IsFileStopped parser (its_given text) document errors) → taken ≡ with_document (nothing_taken schema) document errors true → taken ≡ stopped_at schema text stopped.error
taken_stopped schema text parser document errors taken stopped is =
    is
    ∙ ap (λ (d : Document). with_document (nothing_taken schema) d errors true) stopped.none
    ∙ ap (λ (e : Diagnostics). with_document (nothing_taken schema) no_document e true) stopped.told

one_fault : (schema : Schema) (text : List ℕ) (error : CstError) → all_faults (stopped_at schema text error) ≡ diagnostic (its_given text).file error ∷ []
one_fault schema text error = refl

pub is_built : (schema : Schema) (text : List ℕ) (parser : ParserState) (document : ExecutableDocument) → parser.limits ≡ fresh.limits
    → IsBuilt parser (its_given text) schema (Ok document) → IsBuiltOf schema text document
is_built schema text parser document limits b = by_reading b.takes.read
  where
    by_reading : IsFileRead parser (its_given text) b.takes.document b.takes.errors → IsBuiltOf schema text document
    by_reading (inl whole) = record {
      taken = b.taken;
      definitions = definitions_of schema text parser b.takes.document b.takes.errors b.taken limits whole b.takes.taken;
      builds = b.answers.judged.0;
      is = b.answers.judged.1;
    }
    by_reading (inr stopped) =
        let none : diagnostic (its_given text).file stopped.error ∷ [] ≡ [] =
        sym (one_fault schema text stopped.error)
        ∙ ap all_faults (sym (taken_stopped schema text parser b.takes.document b.takes.errors b.taken stopped b.takes.taken)) ∙ b.answers.judged.0 in
        absurd cc

-- a list that has what a list of one has
one_item : {X : Type 0} (x : X) (ys : List X) → IsPermutation (x ∷ []) ys → ys ≡ x ∷ []
one_item {X} x ys p = by_items ys (length_permutation (x ∷ []) ys p) (All-permutation (λ (y : X). y ≡ x) (x ∷ []) ys p (λ k d inside. only k d inside))
  where
    only : (k : ℕ) (d : X) → k < 1 → get_or (x ∷ []) k d ≡ x
    only zero d inside = refl
    only (suc k) d inside = absurd (omega (arith, inside))

    by_items : (zs : List X) → length zs ≡ 1 → All (λ (y : X). y ≡ x) zs → zs ≡ x ∷ []
    by_items [] count all = absurd (omega (arith, count))
    by_items (y ∷ []) count all = ap (λ (z : X). z ∷ []) (all 0 x (omega arith))
    by_items (y ∷ z ∷ zs) count all = absurd (omega (arith, count))

stopped_list : (schema : Schema) (text : List ℕ) (error : CstError) (taken : Taken) (list : Diagnostics) → taken ≡ stopped_at schema text error
    → IsStableSort list_order (all_faults taken) list.items → list.sources ≡ taken.sources → list ≡ list_of (its_given text) error
stopped_list schema text error taken list is items from =
    let told : all_faults taken ≡ diagnostic (its_given text).file error ∷ [] = ap all_faults is ∙ one_fault schema text error in
    let one : list.items ≡ diagnostic (its_given text).file error ∷ [] =
    one_item (diagnostic (its_given text).file error) list.items (subst (λ (l : List DiagnosticData). IsPermutation l list.items) told items.permutation) in
    let sources : list.sources ≡ its_file (its_given text) = from ∙ ap (λ (t : Taken). t.sources) is in
    λ i. record { sources = sources i; items = one i }

pub is_refused : (schema : Schema) (text : List ℕ) (parser : ParserState) (refusal : WithErrors ExecutableDocument) → parser.limits ≡ fresh.limits
    → IsBuilt parser (its_given text) schema (Err (Fault refusal)) → DocumentFaults schema text refusal.errors
is_refused schema text parser refusal limits b = by_reading b.takes.read
  where
    by_reading : IsFileRead parser (its_given text) b.takes.document b.takes.errors → DocumentFaults schema text refusal.errors
    by_reading (inl whole) =
        let definitions = definitions_of schema text parser b.takes.document b.takes.errors b.taken limits whole b.takes.taken in
        no_build refusal.errors b.taken definitions (record {
          some = b.answers.judged.0;
          items = b.answers.judged.1.1.0;
          sources = b.answers.judged.1.1.1 ∙ the_file schema text b.taken definitions;
        })
    by_reading (inr stopped) =
        let is = stopped_list schema text stopped.error b.taken refusal.errors (taken_stopped schema text parser b.takes.document b.takes.errors b.taken stopped b.takes.taken)
        b.answers.judged.1.1.0 b.answers.judged.1.1.1 in
        subst (DocumentFaults schema text) (sym is) (no_sentence stopped.error (record {
          none = λ h. stopped.stopped.none (subst (λ (l : Limits). IsSentenceWithin l rule.Document text) (sym limits) h);
          report = stopped.report;
          parse = subst (λ (l : Limits). IsReport rule.Document text l stopped.report) limits stopped.stopped.reading.reports.parse;
          stands = stopped.stopped.stands;
        }))

-- ---- the faults that a list has

pub front_none : {X : Type 0} (xs ys : List X) → xs ++ ys ≡ [] → xs ≡ []
front_none [] ys none = refl
front_none (x ∷ xs) ys none = absurd (omega (arith, ap length none))

pub back_none : {X : Type 0} (xs ys : List X) → xs ++ ys ≡ [] → ys ≡ []
back_none xs ys none = sym (ap (λ l. l ++ ys) (front_none xs ys none)) ∙ none

pub empty_back : {X : Type 0} (xs ys : List X) → IsPermutation xs ys → ys ≡ [] → xs ≡ []
empty_back [] ys p e = refl
empty_back (x ∷ xs) ys p e = absurd (omega (arith, length_permutation (x ∷ xs) ys p, ap length e))

pub are_none : {X : Type 0} (test : Bool) (xs : List X) → IsTrue test ↔ (xs ≡ []) → test ≡ true → xs ≡ []
are_none true xs says is = says.0 refl
are_none false xs says is = let e : false ≡ true = is in absurd cc

pub are_some : {X : Type 0} (test : Bool) (xs : List X) → IsTrue test ↔ (xs ≡ []) → test ≡ false → xs ≢ []
are_some true xs says is none = let e : true ≡ false = is in absurd cc
are_some false xs says is none = let e : false ≡ true = says.1 none in absurd cc

pub none_broken : (schema : Schema) (document : ExecutableDocument) (old new : List DiagnosticData) → old ≡ [] → HasListedAllFaults schema document old new → new ≡ []
    → AreDocumentFaults schema document []
none_broken schema document old new start all none =
    let listed = subst (λ (l : List DiagnosticData). IsPermutation (l ++ all.0) new) start all.2.permutation in
    subst (AreDocumentFaults schema document) (empty_back all.0 new listed none) all.1

pub some_broken : (schema : Schema) (document : ExecutableDocument) (old : List DiagnosticData) (list : Diagnostics) → old ≡ [] → HasListedAllFaults schema document old list.items
    → list.items ≢ [] → list.sources ≡ document.sources → AreRulesBroken schema document list
some_broken schema document old list start all some sources = record {
  faults = all.0;
  are = all.1;
  some = λ none. some (empty_back list.items all.0 (IsPermutation-sym all.0 list.items (subst (λ (l : List DiagnosticData). IsPermutation (l ++ all.0) list.items) start all.2.permutation)) none);
  items = subst (λ (l : List DiagnosticData). IsStableSort list_order (l ++ all.0) list.items) start all.2;
  sources = sources;
}

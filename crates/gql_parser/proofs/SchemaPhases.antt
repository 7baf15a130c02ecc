-- What the phases of reading a schema's text come to.
use Rattle.std.proofs.Common.{◌≡◌, ◌≢◌, ℕ, ◌+◌, ◌≤◌, List, [], ◌∷◌, ◌++◌, fold, Result, Ok, Err, IfOk, IsErrAnd, Bool, true, false, refl, sym, ◌∙◌, ap, subst, arith}
use Rattle.std.proofs.lemmas.Bool.{false≢true}
use Rattle.std.specs.List.{sum_by}
use Rattle.std.specs.List.Sorted.{IsPermutation}
use Rattle.std.proofs.lemmas.List.Sorted.{IsPermutation-sym, sum_by-IsPermutation}
use Rattle.jb_text.specs.declared.refused.Refused.{Refused}
use Rattle.jb_text.specs.declared.refused.Refused.TheVariants.{Fault, Memory}
use Rattle.gql_ast.specs.declared.document.Document.{Document}
use Rattle.gql_cst.specs.declared.limits.Limits.{Limits}
use Rattle.gql_cst.specs.Parses.{IsReport}
use Rattle.gql_grammar.specs.declared.rule.Rule.TheVariants as rule
use Rattle.gql_diag.specs.Judged.{IsJudged}
use Rattle.gql_diag.specs.List.{Diagnostics, IsStableSort}
use Rattle.gql_diag.specs.Order.{list_order}
use Rattle.gql_diag.specs.declared.with_errors.WithErrors.{WithErrors}
use Rattle.gql_diag_messages.specs.declared.diagnostic_data.DiagnosticData.{DiagnosticData}
use Rattle.gql_parser.specs.Diagnosed.{diagnostic}
use Rattle.gql_parser.specs.DocumentsRead.{IsDocumentStopped}
use Rattle.gql_parser.specs.Parsers.{ParserState, fresh}
use Rattle.gql_parser.specs.Readings.{IsSentenceWithin}
use Rattle.gql_schema.specs.BuiltInSchema.{IsBuiltIn, built_in_sources}
use Rattle.gql_schema.specs.Builders.{Taken, built, all_faults, nothing_taken}
use Rattle.gql_schema_build.specs.declared.built_in.BuiltIn.{BuiltIn}
use Rattle.gql_schema_rules.specs.Scalars.{validated}
use Rattle.gql_schema_rules.specs.SchemaFaults.{AreSchemaFaults, HasListedAllFaults}
use Rattle.gql_schema_types.specs.declared.schema.Schema.{Schema}
use Rattle.gql_source.specs.File.{Files, joined}
use Rattle.gql_parser.specs.SchemaAnswers.{IsSchemaRead}
use Rattle.gql_parser.specs.bridge.SchemaAnswers.{IsBuildRead, IsBuiltBy, IsUnbuilt, IsBuiltOf, IsReadOf, IsStoppedOf, HasTaken, IsRuled, AreRulesBroken}
use Rattle.gql_parser.specs.SchemaFaults.{SchemaFaults, no_sentence, no_build, broken, all_files}
use Rattle.gql_parser.specs.SchemaText.{AreDefinitions, all_of, its_given}

-- ---- a refusal that is handed on

refused : (text : List ℕ) (e : Refused Diagnostics) → IsBuildRead text (Err e) → IsSchemaRead text (Err e)
refused text (Fault list) told = told
refused text Memory told = tt

pub handed_on : (text : List ℕ) (result : Result Schema (Refused Diagnostics)) (e : Refused Diagnostics) → IsErrAnd result (λ f. f ≡ e) → IsBuildRead text (Err e)
    → IsSchemaRead text result
handed_on text (Ok schema) e is told = absurd is
handed_on text (Err f) e is told = subst (λ (g : Refused Diagnostics). IsSchemaRead text (Err g)) (sym is) (refused text e told)

-- ---- the rules behind the build

the_files : (text : List ℕ) (taken : Taken) → AreDefinitions text taken → taken.sources ≡ all_files text
the_files text taken definitions = ap (λ (t : Taken). t.sources) definitions.all

pub schema_read : (text : List ℕ) (schema : Schema) (result : Result Schema (Refused Diagnostics)) → IsBuiltOf text schema → IsRuled schema result → IsSchemaRead text result
schema_read text schema (Ok made) b r = record {
  taken = b.taken;
  definitions = b.definitions;
  builds = b.builds;
  holds = rw (sym b.is) r.0;
  settled = r.1 ∙ ap validated b.is;
}
schema_read text schema (Err (Fault list)) b r =
    broken list b.taken r.faults b.definitions b.builds (rw (sym b.is) r.are)
    (record { some = r.some; items = r.items; sources = r.sources ∙ ap (λ (s : Schema). s.sources) b.is ∙ the_files text b.taken b.definitions })
schema_read text schema (Err Memory) b r = tt

-- ---- the build behind the reading

pub is_unbuilt : (document : Document) (taken : Taken) (list : Diagnostics) → HasTaken document taken → all_faults taken ≢ [] → IsStableSort list_order (all_faults taken) list.items
    → list.sources ≡ (built taken).sources → IsUnbuilt document list
is_unbuilt document taken list h some items sources = record {
  built_in = h.built_in;
  are_built_in = h.are_built_in;
  some = λ none. some (ap all_faults h.all ∙ none);
  items = subst (λ (t : Taken). IsStableSort list_order (all_faults t) list.items) h.all items;
  sources = sources ∙ ap (λ (t : Taken). t.sources) h.all;
}

pub is_refused : (document : Document) (taken : Taken) (refusal : WithErrors Schema) → HasTaken document taken
    → IsJudged (built taken) (built taken).sources (all_faults taken) (Err (Fault refusal)) → IsUnbuilt document refusal.errors
is_refused document taken refusal h judged = is_unbuilt document taken refusal.errors h judged.0 judged.1.1.0 judged.1.1.1

pub its_built_in : (built_in : BuiltIn) (taken : Taken) (schema : Schema) → taken ≡ nothing_taken built_in_sources built_in → schema ≡ built taken → schema.sources ≡ built_in_sources
its_built_in b taken schema empty is = ap (λ (s : Schema). s.sources) is ∙ ap (λ (t : Taken). t.sources) empty

definitions_of : (text : List ℕ) (document : Document) (built_in : BuiltIn) → IsReadOf text document → IsBuiltIn built_in → AreDefinitions text (all_of built_in document)
definitions_of text document b read is = record {
  sentence = read.sentence;
  definitions = document.definitions;
  mean = read.means;
  built_in = b;
  are_built_in = is;
  all = ap (λ (files : Files). all_of b (record { sources = files; definitions = document.definitions })) read.sources;
}

pub build_read : (text : List ℕ) (document : Document) (result : Result Schema (Refused Diagnostics)) → IsReadOf text document → IsBuiltBy document result → IsBuildRead text result
build_read text document (Ok schema) read b = record {
  taken = all_of b.built_in document;
  definitions = definitions_of text document b.built_in read b.are_built_in;
  builds = b.builds;
  is = b.is;
}
build_read text document (Err (Fault list)) read b =
    let definitions = definitions_of text document b.built_in read b.are_built_in in
    no_build list (all_of b.built_in document) definitions
    (record { some = b.some; items = b.items; sources = b.sources ∙ the_files text (all_of b.built_in document) definitions })
build_read text document (Err Memory) read b = tt

-- ---- the reading

pub is_stopped : (text : List ℕ) (document : Document) (errors : Diagnostics) (parser : ParserState) → parser.limits ≡ fresh.limits
    → IsDocumentStopped parser (its_given text) document errors → IsStoppedOf text errors
is_stopped text document errors parser limits s = record {
  error = s.error;
  stops = record {
    none = λ h. s.stopped.none (subst (λ (l : Limits). IsSentenceWithin l rule.Document text) (sym limits) h);
    report = s.report;
    parse = subst (λ (l : Limits). IsReport rule.Document text l s.report) limits s.stopped.reading.reports.parse;
    stands = s.stopped.stands;
  };
  told = s.told;
}

pub stopped : (text : List ℕ) (errors list : Diagnostics) → IsStoppedOf text errors → list ≡ record errors { sources = joined built_in_sources errors.sources } → SchemaFaults text list
stopped text errors list s made =
    let is : list ≡ record { sources = all_files text; items = diagnostic (its_given text).file s.error ∷ [] } =
    made ∙ ap (λ (e : Diagnostics). record e { sources = joined built_in_sources e.sources }) s.told in
    subst (SchemaFaults text) (sym is) (no_sentence s.error s.stops)

-- ---- the built-in file

pub copied : {E : Type 0} (result : Result Files E) (sources : Files) → IfOk result (λ copy. copy ≡ sources) → sources ≡ built_in_sources
    → IfOk result (λ copy. copy ≡ built_in_sources)
copied (Ok copy) sources is built = is ∙ built
copied (Err e) sources is built = tt

-- ---- the faults that a list has

at_least : {X : Type 0} (n : ℕ) (xs : List X) → n ≤ fold (λ (a : ℕ) (x : X). a + 1) n xs
at_least n [] = omega arith
at_least n (x ∷ xs) = omega (arith, at_least (n + 1) xs)

empty_back : {X : Type 0} (xs ys : List X) → IsPermutation xs ys → ys ≡ [] → xs ≡ []
empty_back [] ys p e = refl
empty_back {X} (x ∷ xs) ys p e =
    let count : sum_by (λ (y : X). 1) ys ≡ sum_by (λ (y : X). 1) (x ∷ xs) = sum_by-IsPermutation (λ (y : X). 1) (x ∷ xs) ys p in
    let none : sum_by (λ (y : X). 1) ys ≡ 0 = ap (sum_by (λ (y : X). 1)) e in
    let some : 1 ≤ sum_by (λ (y : X). 1) (x ∷ xs) = at_least 1 xs in
    absurd (omega (arith, count, none, some))

pub none_broken : (schema : Schema) (old new : List DiagnosticData) → old ≡ [] → HasListedAllFaults schema old new → new ≡ [] → AreSchemaFaults schema []
none_broken schema old new start all none =
    let listed = subst (λ (l : List DiagnosticData). IsPermutation (l ++ all.0) new) start all.2.permutation in
    subst (AreSchemaFaults schema) (empty_back all.0 new listed none) all.1

pub some_broken : (schema : Schema) (old : List DiagnosticData) (list : Diagnostics) → old ≡ [] → HasListedAllFaults schema old list.items → list.items ≢ [] → list.sources ≡ schema.sources
    → AreRulesBroken schema list
some_broken schema old list start all some sources = record {
  faults = all.0;
  are = all.1;
  some = λ none. some (empty_back list.items all.0 (IsPermutation-sym all.0 list.items (subst (λ (l : List DiagnosticData). IsPermutation (l ++ all.0) list.items) start all.2.permutation)) none);
  items = subst (λ (l : List DiagnosticData). IsStableSort list_order (l ++ all.0) list.items) start all.2;
  sources = sources;
}

pub not_empty : (b : Bool) (items : List DiagnosticData) → (items ≡ [] → b ≡ true) → b ≡ false → items ≢ []
not_empty b items is test none = false≢true (sym test ∙ is none)

-- out of memory tells nothing of the rules
pub no_memory : (schema : Schema) (result : Result Schema (Refused Diagnostics)) → IsErrAnd result (λ f. f ≡ Memory) → IsRuled schema result
no_memory schema (Ok made) is = absurd is
no_memory schema (Err f) is = subst (λ (g : Refused Diagnostics). IsRuled schema (Err g)) (sym is) tt

-- A text means one schema at most, and none where something is wrong with it.
use Rattle.std.proofs.Common.{◌≡◌, ℕ, List, [], ◌∷◌, Some, sym, ◌∙◌, ap, ap₂, subst}
use Rattle.gql_ast.specs.declared.definition.Definition.{Definition}
use Rattle.gql_ast_laws.specs.Meant.{IsDocumentOf}
use Rattle.gql_diag.specs.List.{Diagnostics, IsStableSort}
use Rattle.gql_diag.specs.Order.{list_order}
use Rattle.gql_diag_messages.specs.declared.diagnostic_data.DiagnosticData.{DiagnosticData}
use Rattle.gql_grammar.specs.declared.rule.Rule.TheVariants as rule
use Rattle.gql_lexer.specs.declared.error.CstError.{CstError}
use Rattle.gql_parser.specs.Diagnosed.{diagnostic}
use Rattle.gql_parser.specs.Parsers.{fresh, its_file}
use Rattle.gql_schema.specs.BuiltInSchema.{IsBuiltIn, built_in_file}
use Rattle.gql_schema.specs.Builders.{Taken, built, all_faults}
use Rattle.gql_schema_build.specs.TypeSystems.{with_definitions, no_definitions}
use Rattle.gql_schema_build.specs.declared.built_in.BuiltIn.{BuiltIn}
use Rattle.gql_schema_rules.specs.Scalars.{validated}
use Rattle.gql_schema_rules.specs.SchemaFaults.{AreSchemaFaults}
use Rattle.gql_schema_types.specs.declared.schema.Schema.{Schema}
use Rattle.gql_source.specs.declared.file_id.FileId.{FileId}
use Rattle.gql_parser.specs.SchemaFaults.{SchemaFaults, no_sentence, no_build, broken, all_files, IsListOf}
use Rattle.gql_parser.specs.Sentences.{StopsAt}
use Rattle.gql_parser.specs.SchemaText.{AreDefinitions, SchemaText, all_of, its_given}
use Rattle.gql_parser.proofs.Marks.{one_list}
use Rattle.gql_cst.proofs.OneError.{OneStands, WordsLaw, told_alike}

abbrev pub OneDocument : Type 0
OneDocument = (text : List ℕ) (file : FileId) (one other : List Definition) → IsDocumentOf text file one → IsDocumentOf text file other → one ≡ other

one_built_in : OneDocument → (one other : BuiltIn) → IsBuiltIn one → IsBuiltIn other → one ≡ other
one_built_in law one other h k =
    let same : h.definitions ≡ k.definitions = law _ built_in_file h.definitions k.definitions h.text k.text in
    let directives : one.directives ≡ other.directives = h.directives ∙ ap (λ (ds : List Definition). (with_definitions no_definitions ds).directives) same ∙ sym k.directives in
    let types : one.types ≡ other.types = h.types ∙ ap (λ (ds : List Definition). (with_definitions no_definitions ds).types) same ∙ sym k.types in
    λ i. record { directives = directives i; types = types i }

pub one_taken : OneDocument → (text : List ℕ) (one other : Taken) → AreDefinitions text one → AreDefinitions text other → one ≡ other
one_taken law text one other h k =
    h.all
    ∙ ap₂ (λ (b : BuiltIn) (ds : List Definition). all_of b (record { sources = its_file (its_given text); definitions = ds }))
    (one_built_in law h.built_in k.built_in h.are_built_in k.are_built_in)
    (law text (its_given text).file h.definitions k.definitions h.mean k.mean)
    ∙ sym k.all

pub one_schema : OneDocument → (text : List ℕ) (one other : Schema) → SchemaText text one → SchemaText text other → one ≡ other
one_schema law text one other h k =
    h.settled ∙ ap (λ (t : Taken). validated (built t)) (one_taken law text h.taken k.taken h.definitions k.definitions) ∙ sym k.settled

same_faults : OneDocument → (text : List ℕ) (one other : Taken) → AreDefinitions text one → AreDefinitions text other → all_faults one ≡ [] → all_faults other ≡ []
same_faults law text one other h k builds = ap all_faults (one_taken law text other one k h) ∙ builds

pub no_faults : OneDocument → (text : List ℕ) (schema : Schema) (list : Diagnostics) → SchemaText text schema → SchemaFaults text list → ⊥
no_faults law text schema told s (no_sentence error stops) = stops.none s.definitions.sentence
no_faults law text schema told s (no_build list taken definitions is) = is.some (same_faults law text s.taken taken s.definitions definitions s.builds)
no_faults law text schema told s (broken list taken faults definitions builds are is) =
    is.some (one_list (built taken) faults [] are (subst (λ (t : Taken). AreSchemaFaults (built t) []) (one_taken law text s.taken taken s.definitions definitions) s.holds))

-- ---- and what is wrong with it is one list

abbrev pub OneSort : Type 0
OneSort = (items one other : List DiagnosticData) → IsStableSort list_order items one → IsStableSort list_order items other → one ≡ other

one_sorted : OneSort → (text : List ℕ) (faults found : List DiagnosticData) (one other : Diagnostics) → faults ≡ found → IsListOf text faults one → IsListOf text found other → one ≡ other
one_sorted law text faults found one other same h k =
    let sources : one.sources ≡ other.sources = h.sources ∙ sym k.sources in
    let items : one.items ≡ other.items = law found one.items other.items (subst (λ (l : List DiagnosticData). IsStableSort list_order l one.items) same h.items) k.items in
    λ i. record { sources = sources i; items = items i }

pub one_stop : OneStands → WordsLaw → (text : List ℕ) (one other : CstError) → StopsAt text one → StopsAt text other → one ≡ other
one_stop stands words text one other h k =
    let e : Some one ≡ Some other = sym h.stands ∙ (told_alike stands words rule.Document text fresh.limits h.report k.report h.parse k.parse).error ∙ k.stands in cc

pub one_faults : OneDocument → OneSort → OneStands → WordsLaw → (text : List ℕ) (one other : Diagnostics) → SchemaFaults text one → SchemaFaults text other → one ≡ other
one_faults law sort stands words text one other (no_sentence e h) (no_sentence f k) =
    ap (λ (x : CstError). record { sources = all_files text; items = diagnostic (its_given text).file x ∷ [] }) (one_stop stands words text e f h k)
one_faults law sort stands words text one other (no_sentence e h) (no_build list taken definitions is) = absurd (h.none definitions.sentence)
one_faults law sort stands words text one other (no_sentence e h) (broken list taken faults definitions builds are is) = absurd (h.none definitions.sentence)
one_faults law sort stands words text one other (no_build list taken definitions is) (no_sentence f k) = absurd (k.none definitions.sentence)
one_faults law sort stands words text one other (no_build list taken definitions is) (no_build list' taken' definitions' is') =
    one_sorted sort text (all_faults taken) (all_faults taken') list list' (ap all_faults (one_taken law text taken taken' definitions definitions')) is is'
one_faults law sort stands words text one other (no_build list taken definitions is) (broken list' taken' faults definitions' builds are is') =
    absurd (is.some (same_faults law text taken' taken definitions' definitions builds))
one_faults law sort stands words text one other (broken list taken faults definitions builds are is) (no_sentence f k) = absurd (k.none definitions.sentence)
one_faults law sort stands words text one other (broken list taken faults definitions builds are is) (no_build list' taken' definitions' is') =
    absurd (is'.some (same_faults law text taken taken' definitions definitions' builds))
one_faults law sort stands words text one other (broken list taken faults definitions builds are is) (broken list' taken' faults' definitions' builds' are' is') =
    one_sorted sort text faults faults' list list'
    (one_list (built taken') faults faults' (subst (λ (t : Taken). AreSchemaFaults (built t) faults) (one_taken law text taken taken' definitions definitions') are) are') is is'

-- What is made of a parse is what comes of the file.
use Rattle.std.proofs.Common.{◌≡◌, inl, inr, ℕ, List, Option, Some, None, MatchOption, IsSome, IfOk, Result, Ok, Err, ◌++◌, ◌∙◌, refl, sym, ap, subst}
use Rattle.std.specs.Map.{lookup}
use Rattle.jb_text.specs.declared.refused.Refused.{Refused}
use Rattle.jb_text.specs.declared.refused.Refused.TheVariants.{Fault, Memory}
use Rattle.gql_source.specs.declared.file_id.FileId.{FileId}
use Rattle.gql_source.specs.File.{Files, is_file}
use Rattle.gql_lexer.specs.declared.error.CstError.{CstError}
use Rattle.gql_grammar.specs.declared.rule.Rule.{Rule}
use Rattle.gql_grammar.specs.declared.rule.Rule.TheVariants as rule
use Rattle.gql_grammar.specs.declared.syntax_kind.SyntaxKind.TheVariants as kind
use Rattle.gql_cst.specs.declared.limits.Limits.{Limits}
use Rattle.gql_cst.specs.declared.limits.Parsed.{Parsed}
use Rattle.gql_cst.specs.Forest.{Plain, plain}
use Rattle.gql_cst.specs.Parses.{IsReport}
use Rattle.gql_cst.specs.Report.{Report, report_of}
use Rattle.gql_cst.specs.TreeOf.{IsTreeOf}
use Rattle.gql_cst.proofs.Parsing.{parse_tree}
use Rattle.gql_ast.specs.declared.document.Document.{Document}
use Rattle.gql_ast.specs.Documents.{definitions, file_text, text_of}
use Rattle.gql_ast_base.specs.declared.type_ref.TypeRef.{TypeRef}
use Rattle.gql_ast_base.specs.Types.{type_of}
use Rattle.gql_ast.specs.declared.selection.Selection.{Selection}
use Rattle.gql_ast.specs.Selections.{selected, selections}
use Rattle.gql_ast_reader.specs.bridge.IsRead.{IsRead}
use Rattle.gql_ast_reader.specs.declared.read.Read.{Read}
use Rattle.gql_ast_laws.specs.Meant.{IsDocumentOf, AreSelectionsOf, IsTypeOf}
use Rattle.gql_diag.specs.List.{Diagnostics}
use Rattle.gql_diag.specs.declared.with_errors.WithErrors.{WithErrors}
use Rattle.gql_ast_base.specs.Names.{Named}
use Rattle.gql_document.specs.FieldSets.{built, all_faults}
use Rattle.gql_diag.specs.Judged.{IsJudged as IsFaultsJudged}
use Rattle.gql_document_types.specs.declared.document.FieldSet.{FieldSet}
use Rattle.gql_schema_types.specs.declared.schema.Schema.{Schema}
use Rattle.gql_parser.specs.Parsers.{ParserState, Given, its_file}
use Rattle.gql_parser.specs.bridge.Diagnosed.{IsOrdered}
use Rattle.gql_parser.specs.Readings.{IsReading, IsWhole, IsStopped, IsLeft}
use Rattle.gql_parser.specs.bridge.Readings.{IsJudged}
use Rattle.gql_parser.specs.DocumentsRead.{IsDocumentRead, IsDocumentAnswer}
use Rattle.gql_parser.specs.bridge.DocumentsRead.{IsReadTo, IsAnswerOf}
use Rattle.gql_parser.specs.TypesRead.{IsTypeAnswer}
use Rattle.gql_parser.specs.bridge.TypesRead.{IsComplete, IsTypeOfParse}
use Rattle.gql_parser.specs.FileRead.{IsFileRead}
use Rattle.gql_parser.specs.bridge.FileRead.{IsFileOf}
use Rattle.gql_parser.specs.FieldSetsRead.{AreSelectionsRead, IsFieldSetAnswer}
use Rattle.gql_parser.specs.bridge.FieldSetsRead.{AreSelectionsOfParse}
use Rattle.gql_parser.proofs.Gathered.{gathered}
use Rattle.gql_parser.proofs.Judging.{judged as judge}
use Rattle.gql_parser.proofs.Ordered.{ordered}

abbrev pub DocumentLaw : Type 0
DocumentLaw = (text : List ℕ) (file : FileId) (limits : Limits) (report : Report) → IsReport rule.Document text limits report → report.error ≡ None
    → IsDocumentOf text file (definitions text file report.tree)

abbrev pub TypeLaw : Type 0
TypeLaw = (text : List ℕ) (file : FileId) (limits : Limits) (report : Report) (ty : TypeRef) → IsReport rule.TypeReference text limits report → report.error ≡ None
    → type_of text file report.tree ≡ Some ty → IsTypeOf text file ty

whole : (parser : ParserState) (start : Rule) (text : List ℕ) (report : Report) → IsJudged parser start text report → report.error ≡ None → IsWhole parser start text report
whole parser start text report judged is =
    subst (λ (e : Option CstError). MatchOption e (IsWhole parser start text report) (λ error. IsStopped parser start text report error)) is judged

stopped : (parser : ParserState) (start : Rule) (text : List ℕ) (report : Report) (error : CstError) → IsJudged parser start text report → report.error ≡ Some error
    → IsStopped parser start text report error
stopped parser start text report error judged is =
    subst (λ (e : Option CstError). MatchOption e (IsWhole parser start text report) (λ error. IsStopped parser start text report error)) is judged

-- however it ends, the text was read so far
so_far : (parser : ParserState) (start : Rule) (text : List ℕ) (report : Report) (error : Option CstError)
    → MatchOption error (IsWhole parser start text report) (λ e. IsStopped parser start text report e) → IsReading parser start text report
so_far parser start text report None judged = judged.reading
so_far parser start text report (Some error) judged = judged.reading

pub left : (old new : ParserState) (start : Rule) (text : List ℕ) (report : Report) → new.limits ≡ old.limits → IsJudged new start text report → IsLeft old new start text
left old new start text report limits judged = record { limits = limits; counts = inr (report, so_far new start text report report.error judged) }

-- ---- documents

-- what is read of the one file, by a parser that is told how far
pub read_to : (given : Given) (limits : Limits) (sources : Files) (read : Read) → sources ≡ its_file given
    → lookup (is_file given.file) sources ≡ Some (record { path = given.path; source_text = given.text }) → IsRead (text_of given.file sources) given.file limits read
    → IsReadTo (record { limits = limits; recursion_reached = read.recursion_reached; tokens_reached = read.tokens_reached }) given
    (record { sources = sources; definitions = read.definitions }) read.error
read_to given limits sources read is found reads =
    let r = subst (λ (text : List ℕ). IsRead text given.file limits read) (ap file_text found) reads in
    let report : Report = record { tree = r.tree; error = read.error; recursion_reached = read.recursion_reached; tokens_reached = read.tokens_reached } in
    record {
      report = report;
      judged = judge (record { limits = limits; recursion_reached = read.recursion_reached; tokens_reached = read.tokens_reached }) rule.Document given.text report refl
          (record { reports = r.reports; recursion_reached = refl; tokens_reached = refl }) r.reports.accepts;
      ended = refl;
      partial = λ i. record { sources = is i; definitions = sym r.means i };
    }

pub read_ordered : (parser : ParserState) (given : Given) (document : Document) (error : Option CstError) → IsReadTo parser given document error → IsOrdered error
read_ordered parser given document error r =
    subst IsOrdered r.ended
    (ordered rule.Document given.text parser.limits r.report (so_far parser rule.Document given.text r.report r.report.error r.judged).reports.parse)

whole_read : DocumentLaw → (parser : ParserState) (given : Given) (document : Document) (error : Option CstError) → IsReadTo parser given document error → error ≡ None
    → IsDocumentRead parser given document
whole_read law parser given document error r is =
    let none : r.report.error ≡ None = r.ended ∙ is in
    let w = whole parser rule.Document given.text r.report r.judged none in
    record {
      report = r.report;
      whole = w;
      sources = ap (λ (d : Document). d.sources) r.partial;
      means = subst (λ (d : Document). IsDocumentOf given.text given.file d.definitions) (sym r.partial) (law given.text given.file parser.limits r.report w.reading.reports.parse none);
    }

pub document_answer : DocumentLaw → (parser : ParserState) (given : Given) (document : Document) (error : Option CstError) → IsReadTo parser given document error
    → (result : Result Document (Refused (WithErrors Document))) → IsAnswerOf given document error result → IsDocumentAnswer parser given result
document_answer law parser given document error r (Ok answer) h =
    subst (λ (d : Document). IsDocumentRead parser given d) (sym h.1) (whole_read law parser given document error r h.0)
document_answer law parser given document error r (Err (Fault refusal)) h = record {
  report = r.report;
  error = h.0;
  stopped = stopped parser rule.Document given.text r.report h.0 r.judged (r.ended ∙ h.1);
  partial = h.2 ∙ r.partial;
  told = h.3;
}
document_answer law parser given document error r (Err Memory) h = tt

-- ---- types

pub type_answer : TypeLaw → (parser : ParserState) (given : Given) (parsed : Parsed) (result : Result TypeRef (Refused Diagnostics))
    → IsJudged parser rule.TypeReference given.text (report_of parsed) → IsTypeOfParse given parsed result → IsTypeAnswer parser given result
type_answer law parser given parsed (Ok ty) judged h =
    let w = whole parser rule.TypeReference given.text (report_of parsed) judged h.0 in
    record { report = report_of parsed; whole = w; means = law given.text given.file parser.limits (report_of parsed) ty w.reading.reports.parse h.0 h.1 }
type_answer law parser given parsed (Err (Fault errors)) judged h =
    record { report = report_of parsed; error = h.0; stopped = stopped parser rule.TypeReference given.text (report_of parsed) h.0 judged h.1; told = h.2 }
type_answer law parser given parsed (Err Memory) judged h = tt

abbrev pub CompleteLaw : Type 0
CompleteLaw = (text : List ℕ) (file : FileId) (tree : Plain) → tree.kind ≡ kind.TypeReference → IsTreeOf rule.TypeReference text tree.children → IsSome (type_of text file tree)

pub complete : CompleteLaw → (parser : ParserState) (given : Given) (parsed : Parsed) → IsJudged parser rule.TypeReference given.text (report_of parsed) → IsComplete given parsed
complete law parser given parsed judged is =
    let parse = (whole parser rule.TypeReference given.text (report_of parsed) judged is).reading.reports.parse in
    law given.text given.file (plain parsed.tree) parse.2.tree_kind (parse_tree rule.TypeReference given.text parser.limits (report_of parsed) parse is)

-- ---- files that a builder takes

pub file_read : DocumentLaw → (parser : ParserState) (given : Given) (read : Document) (error : Option CstError) → IsReadTo parser given read error
    → (document : Document) (errors : Diagnostics) → IsFileOf given read error document errors → IsFileRead parser given document errors
file_read law parser given read error r document errors (inl h) = inl (record {
  read = subst (λ (d : Document). IsDocumentRead parser given d) (sym h.1) (whole_read law parser given read error r h.0);
  told = h.2;
})
file_read law parser given read error r document errors (inr h) = inr (record {
  report = r.report;
  error = h.0;
  stopped = stopped parser rule.Document given.text r.report h.0 r.judged (r.ended ∙ h.1);
  none = h.2;
  told = h.3;
})

-- ---- sets of fields

abbrev pub SelectionsLaw : Type 0
SelectionsLaw = (text : List ℕ) (file : FileId) (limits : Limits) (report : Report) → IsReport rule.FieldSet text limits report → report.error ≡ None
    → AreSelectionsOf text file (selected text file report.tree.children ++ selections text file report.tree.children)

pub selections_read : SelectionsLaw → (parser : ParserState) (given : Given) (parsed : Parsed) (read : List Selection) (errors : Diagnostics)
    → IsJudged parser rule.FieldSet given.text (report_of parsed) → AreSelectionsOfParse given parsed read errors → AreSelectionsRead parser given read errors
selections_read law parser given parsed read errors judged (inl h) =
    let w = whole parser rule.FieldSet given.text (report_of parsed) judged h.0 in
    inl (record {
      report = report_of parsed;
      whole = w;
      mean = subst (λ (s : List Selection). AreSelectionsOf given.text given.file s) (sym (h.1 ∙ gathered given.text given.file (plain parsed.tree).children))
          (law given.text given.file parser.limits (report_of parsed) w.reading.reports.parse h.0);
      told = h.2;
    })
selections_read law parser given parsed read errors judged (inr h) = inr (record {
  report = report_of parsed;
  error = h.0;
  stopped = stopped parser rule.FieldSet given.text (report_of parsed) h.0 judged h.1;
  none = h.2;
  told = h.3;
})

pub ok_so : {A E : Type 0} (P Q : A → Type 0) (result : Result A E) → ((x : A) → P x → Q x) → IfOk result P → IfOk result Q
ok_so P Q (Ok x) f h = f x h
ok_so P Q (Err e) f h = tt

pub field_set_answer : (parser : ParserState) (given : Given) (schema : Schema) (ty : Named) (read : List Selection) (errors : Diagnostics) → AreSelectionsRead parser given read errors
    → (result : Result FieldSet (Refused (WithErrors FieldSet))) → IsFaultsJudged (built schema ty read errors.sources) errors.sources (all_faults schema ty read errors) result
    → IsFieldSetAnswer parser given schema ty result
field_set_answer parser given schema ty read errors are (Ok set) judged = record { read = read; errors = errors; are_read = are; judged = judged }
field_set_answer parser given schema ty read errors are (Err (Fault refusal)) judged = record { read = read; errors = errors; are_read = are; judged = judged }
field_set_answer parser given schema ty read errors are (Err Memory) judged = tt

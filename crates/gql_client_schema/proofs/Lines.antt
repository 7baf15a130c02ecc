-- Texts that end in LF.
use Rattle.std.proofs.Common.{◌≡◌, ◌-◌, ℕ, Bool, true, false, List, [], ◌∷◌, ◌++◌, take, length, flat_map, Option, Some, None, codes, refl, sym, ap, ◌∙◌, subst, append_assoc, arith}
use Rattle.std.proofs.Math.Seq.{take-append_seam}
use Rattle.std.proofs.lemmas.List.{length-append}
use Rattle.std.proofs.lemmas.List.Sorted.{length_permutation}
use Rattle.std.specs.List.Sorted.{IsPermutation}
use Rattle.jb_io.specs.Reply.{line}
use Rattle.gql_diag.specs.List.{Diagnostics}
use Rattle.gql_diag.specs.Report.{Report, report_text, label_line, line_in, placed_line, line_of}
use Rattle.gql_diag.specs.Reported.{data_reported, message_alone}
use Rattle.gql_diag_messages.specs.Details.{message_of}
use Rattle.gql_diag_messages.specs.declared.diagnostic_data.DiagnosticData.{DiagnosticData}
use Rattle.gql_source.specs.File.{File, Files, is_file}
use Rattle.gql_source.specs.Lines.{line_column_within}
use Rattle.gql_source.specs.Span.{Span}
use Rattle.gql_source.specs.declared.line_column.LineColumn.{LineColumn}
use Rattle.std.specs.Map.{lookup}
use Rattle.gql_sdl.specs.Definitions.{directive_text, type_definition_text}
use Rattle.gql_sdl.specs.Schemas.{line_unless, is_directive_name, is_built_in, directive_line, type_line, roots_text, schema_text}
use Rattle.gql_sdl.specs.declared.shown.ShownDirective.{ShownDirective}
use Rattle.gql_sdl.specs.declared.shown.ShownSchema.{ShownSchema}
use Rattle.gql_sdl.specs.declared.shown.ShownType.{ShownType}
use Rattle.gql_parser.specs.Diagnosed.{diagnostic}
use Rattle.gql_parser.specs.SchemaText.{its_given}
use Rattle.gql_parser.specs.SchemaFaults.{SchemaFaults, no_sentence, no_build, broken}
use Rattle.gql_client_schema.specs.ClientSchema.{HasCause, IsClientSchema}
use Rattle.gql_client_schema.specs.Program.{item_report, list_reports, read_text, shape_text, refusal_of}
use Rattle.gql_client_schema.specs.bridge.Program.{EndsLine}
use Rattle.gql_client_schema.specs.declared.making.ClientFault.{ClientFault}
use Rattle.gql_client_schema.specs.declared.making.ClientFault.TheVariants.{Read, Shape, Schema}
use Rattle.gql_client_schema.specs.declared.making.ClientSchema.{ClientSchema}

-- with one of these behind it a text that ends in LF still does
data IsLines (text : List ℕ) : Type 0 where
  none : text ≡ [] → IsLines text
  some : EndsLine text → IsLines text

behind : (one other : List ℕ) → EndsLine one → IsLines other → EndsLine (one ++ other)
behind one other h (none is) = subst EndsLine (sym (append_nil one) ∙ ap (λ (t : List ℕ). one ++ t) (sym is)) h
  where
    append_nil : (xs : List ℕ) → xs ++ [] ≡ xs
    append_nil [] = refl
    append_nil (x ∷ xs) = ap (λ (ys : List ℕ). x ∷ ys) (append_nil xs)
behind one other h (some k) = record { front = one ++ k.front; is = ap (λ (t : List ℕ). one ++ t) k.is ∙ sym (append_assoc one k.front (10 ∷ [])) }

ends : (front : List ℕ) → EndsLine (front ++ codes "\n")
ends front = record { front = front; is = refl }

-- ---- the text of a schema

unless : (b : Bool) (text : List ℕ) → IsLines (line_unless b text)
unless true text = none refl
unless false text = some (ends text)

both : (one other : List ℕ) → IsLines one → IsLines other → IsLines (one ++ other)
both one other (none is) h = subst IsLines (ap (λ (t : List ℕ). t ++ other) (sym is)) h
both one other (some h) k = some (behind one other h k)

module _ {X : Type 0} (text_of : X → List ℕ) (each : (x : X) → IsLines (text_of x)) where
  all_lines : (xs : List X) → IsLines (flat_map text_of xs)
  all_lines [] = none refl
  all_lines (x ∷ xs) = both (text_of x) (flat_map text_of xs) (each x) (all_lines xs)

a_directive : (directive : ShownDirective) → IsLines (directive_line directive)
unfolding directive_line
a_directive directive = unless (is_directive_name directive.name.text) (directive_text directive)

a_type : (ty : ShownType) → IsLines (type_line ty)
unfolding type_line
a_type ty = unless (is_built_in ty) (type_definition_text ty)

schema_ends : (shown : ShownSchema) → EndsLine (schema_text shown)
schema_ends shown =
    behind (roots_text shown ++ codes "\n") (flat_map directive_line shown.directives ++ flat_map type_line shown.types) (ends (roots_text shown))
    (both (flat_map directive_line shown.directives) (flat_map type_line shown.types)
    (all_lines directive_line a_directive shown.directives) (all_lines type_line a_type shown.types))

-- ---- reports

title_line : (title : List ℕ) (text : Option (List ℕ)) → IsLines (line_of title text)
title_line title None = none refl
title_line title (Some text) = some (record { front = title ++ text; is = refl })

at_place : (file : File) (place : Option LineColumn) (text : List ℕ) → IsLines (placed_line file place text)
at_place file None text = none refl
at_place file (Some place) text = some (record { front = _; is = refl })

in_file : (file : Option File) (span : Span) (text : List ℕ) → IsLines (line_in file span text)
in_file None span text = none refl
in_file (Some file) span text = at_place file (line_column_within file.source_text span.offset) text

one_label : (sources : Files) (label : Span × List ℕ) → IsLines (label_line sources label)
one_label sources label = in_file (lookup (is_file label.0.file_id) sources) label.0 label.1

report_ends : (report : Report) → EndsLine (report_text report)
report_ends report =
    let labels = flat_map (label_line report.sources) report.labels in
    let help = line_of (codes "Help: ") report.help in
    let note = line_of (codes "Note: ") report.note in
    let title = codes "Error: " ++ report.message ++ codes "\n" in
    behind (title ++ labels ++ help) note
    (behind (title ++ labels) help
    (behind title labels (record { front = codes "Error: " ++ report.message; is = refl })
    (all_lines (label_line report.sources) (one_label report.sources) report.labels))
    (title_line (codes "Help: ") report.help))
    (title_line (codes "Note: ") report.note)

item_ends : (sources : Files) (item : DiagnosticData) → EndsLine (item_report sources item)
item_ends sources item = report_ends (data_reported item (message_alone sources (message_of item.details)))

reports_end : (list : Diagnostics) (first : DiagnosticData) (rest : List DiagnosticData) → list.items ≡ first ∷ rest → EndsLine (list_reports list)
reports_end list first rest is =
    subst (λ (items : List DiagnosticData). EndsLine (flat_map (item_report list.sources) items)) (sym is)
    (behind (item_report list.sources first) (flat_map (item_report list.sources) rest) (item_ends list.sources first)
    (all_lines (item_report list.sources) (λ item. some (item_ends list.sources item)) rest))

-- ---- the text before the LF

front_of : (front : List ℕ) → take (length (front ++ 10 ∷ []) - 1) (front ++ 10 ∷ []) ≡ front
front_of front =
    let e : length (front ++ 10 ∷ []) - 1 ≡ length front = omega (arith, length-append front (10 ∷ [])) in
    rw e (take-append_seam front (10 ∷ []))

pub front_line : (text : List ℕ) → EndsLine text → line (take (length text - 1) text) ≡ text
front_line text h = subst (λ (t : List ℕ). line (take (length t - 1) t) ≡ t) (sym h.is) (ap line (front_of h.front))

no_items : (xs : List DiagnosticData) → length xs ≡ 0 → xs ≡ []
no_items [] h = refl
no_items (x ∷ xs) h = absurd (omega (arith, h))

some_reports : (list : Diagnostics) (faults : List DiagnosticData) → (faults ≡ [] → ⊥) → IsPermutation faults list.items → EndsLine (list_reports list)
some_reports list faults nonempty permutes = by_items list.items refl
  where
    by_items : (items : List DiagnosticData) → list.items ≡ items → EndsLine (list_reports list)
    by_items [] is = absurd (nonempty (no_items faults (sym (length_permutation faults list.items permutes) ∙ ap length is)))
    by_items (first ∷ rest) is = reports_end list first rest is

faults_end : (text : List ℕ) (list : Diagnostics) → SchemaFaults text list → EndsLine (list_reports list)
faults_end text list (no_sentence error stops) = reports_end list (diagnostic (its_given text).file error) [] refl
faults_end text list (no_build told taken definitions is) = some_reports list _ is.some is.items.permutation
faults_end text list (broken told taken faults definitions builds are is) = some_reports list _ is.some is.items.permutation

pub refusal_ends : (bytes : List ℕ) (fault : ClientFault) → HasCause bytes fault → EndsLine (refusal_of fault)
refusal_ends bytes (Read fault) cause = record { front = read_text fault; is = refl }
refusal_ends bytes (Shape path) cause = record { front = shape_text path; is = refl }
refusal_ends bytes (Schema list) cause = faults_end (schema_text cause.holds.shown) list cause.holds.faults

pub made_ends : (bytes : List ℕ) (made : ClientSchema) → IsClientSchema bytes made → EndsLine made.text
made_ends bytes made is = subst EndsLine (sym is.made_of.is) (schema_ends is.made_of.shown)

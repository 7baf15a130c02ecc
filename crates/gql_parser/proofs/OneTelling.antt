-- What the rules tell of a document are the same diagnostics, if not in the same order.
use Rattle.std.proofs.Common.{◌≡◌, ℕ, true, List, [], ◌∷◌, ◌++◌, slice_get, flat_map, refl, sym, ◌∙◌, ap₂, subst, arith}
use Rattle.std.specs.List.Sorted.{IsPermutation}
use Rattle.std.specs.Option.{option_map_or}
use Rattle.std.proofs.lemmas.Bool.Decides.{nat_tests}
use Rattle.std.proofs.lemmas.List.Sorted.{IsPermutation-refl, IsPermutation-append_right}
use Rattle.gql_diag_messages.specs.declared.diagnostic_data.DiagnosticData.{DiagnosticData}
use Rattle.gql_document_types.specs.declared.document.ExecutableDocument.{ExecutableDocument}
use Rattle.gql_rules.specs.DocumentFaults.{AreDocumentFaults, AreFirstOrAll, AreOtherFaults}
use Rattle.gql_rules_nodes.specs.DocumentNodes.{document_nodes_faults}
use Rattle.gql_rules_merging.specs.FieldSelectionMerging.{AreConflicts, conflict, conflict_of, same_fields}
use Rattle.gql_rules_merging.specs.Numbering.{Selected, numbered}
use Rattle.gql_graph.specs.declared.pair.Pair.{Pair}
use Rattle.gql_schema_types.specs.declared.schema.Schema.{Schema}
use Rattle.gql_schema_types.specs.declared.types.ExtendedType.{ExtendedType}
use Rattle.gql_parser.proofs.Sets.{Has, found, has_at, same_told}
use Rattle.gql_parser.proofs.Telling.{spreads_once, unused_once, variables_once}

-- ---- pairs of the same fields

first_same : (p q : Pair) → same_fields p q ≡ true → p.first ≡ q.first
first_same p q same = grind (arith, nat_tests)

second_same : (p q : Pair) → same_fields p q ≡ true → p.second ≡ q.second
second_same p q same = grind (arith, nat_tests)

same_made : (p q : Pair) → p.first ≡ q.first → p.second ≡ q.second → same_fields p q ≡ true
same_made p q one other = grind (arith, nat_tests)

itself : (p : Pair) → same_fields p p ≡ true
itself p = same_made p p refl refl

turned : (p q : Pair) → same_fields p q ≡ true → same_fields q p ≡ true
turned p q same = same_made q p (sym (first_same p q same)) (sym (second_same p q same))

joined : (p q r : Pair) → same_fields p q ≡ true → same_fields q r ≡ true → same_fields p r ≡ true
joined p q r same more = same_made p r (first_same p q same ∙ first_same q r more) (second_same p q same ∙ second_same q r more)

-- ---- fields that conflict

module _ (types : List ExtendedType) (document : ExecutableDocument) where
  abbrev fields : List Selected
  fields = (numbered document).fields

  abbrev told_of : Pair → List DiagnosticData
  told_of = conflict_of types fields

  told_same : (p q : Pair) → same_fields p q ≡ true → told_of p ≡ told_of q
  told_same p q same =
      ap₂ (λ (a b : ℕ). option_map_or (λ (one : Selected). option_map_or (λ (other : Selected). conflict types one other ∷ []) (slice_get fields b) []) (slice_get fields a) [])
      (first_same p q same) (second_same p q same)

  abbrev HasOne : List Pair → Pair → Type 0
  HasOne = Has same_fields itself turned joined told_of told_same

  there_too : (one other : List DiagnosticData) (h : AreConflicts types document one) (k : AreConflicts types document other) (p : Pair) → HasOne h.pairs p → HasOne k.pairs p
  there_too one other h k p has =
      let q = found same_fields itself turned joined told_of told_same h.pairs p has in
      let is = h.only q.0 q.1 in
      let r = k.all q.0 is.0 is.1 in
      has_at same_fields itself turned joined told_of told_same k.pairs p r.0 r.1.0 r.1.1 r.1.2 (joined p q.0 r.0 q.2 r.2)

  pub conflicts_once : (one other : List DiagnosticData) → AreConflicts types document one → AreConflicts types document other → IsPermutation one other
  conflicts_once one other h k =
      subst (λ (l : List DiagnosticData). IsPermutation l other) (sym h.whole)
      (subst (λ (l : List DiagnosticData). IsPermutation (flat_map told_of h.pairs) l) (sym k.whole)
      (same_told same_fields itself turned joined told_of told_same h.pairs k.pairs h.distinct k.distinct (there_too one other h k) (there_too other one k h)))

-- ---- all rules

module _ (schema : Schema) (document : ExecutableDocument) where
  others_once : (one other : List DiagnosticData) → AreOtherFaults schema document one → AreOtherFaults schema document other → IsPermutation one other
  others_once one other h k =
      let nodes = document_nodes_faults schema document in
      let front : (nodes ++ h.unused) ++ h.variables ≡ (nodes ++ k.unused) ++ k.variables =
      ap₂ (λ (u v : List DiagnosticData). (nodes ++ u) ++ v) (unused_once document h.unused k.unused h.are_unused k.are_unused)
      (variables_once schema document h.variables k.variables h.are_variables k.are_variables) in
      subst (λ (l : List DiagnosticData). IsPermutation l other) (sym h.whole)
      (subst (λ (l : List DiagnosticData). IsPermutation (((nodes ++ h.unused) ++ h.variables) ++ h.conflicts) l) (sym k.whole)
      (subst (λ (l : List DiagnosticData). IsPermutation (((nodes ++ h.unused) ++ h.variables) ++ h.conflicts) (l ++ k.conflicts)) front
      (IsPermutation-append_right ((nodes ++ h.unused) ++ h.variables) h.conflicts k.conflicts
      (conflicts_once schema.types document h.conflicts k.conflicts h.are_conflicts k.are_conflicts))))

  by_spreads : (spreads one other : List DiagnosticData) → AreFirstOrAll (AreOtherFaults schema document) spreads one → AreFirstOrAll (AreOtherFaults schema document) spreads other
      → IsPermutation one other
  by_spreads [] one other h k = others_once one other h k
  by_spreads (first ∷ firsts) one other h k = subst (λ (l : List DiagnosticData). IsPermutation one l) (h ∙ sym k) (IsPermutation-refl one)

  pub faults_once : (one other : List DiagnosticData) → AreDocumentFaults schema document one → AreDocumentFaults schema document other → IsPermutation one other
  faults_once one other h k =
      by_spreads k.spreads one other
      (subst (λ (l : List DiagnosticData). AreFirstOrAll (AreOtherFaults schema document) l one) (spreads_once document h.spreads k.spreads h.are_spreads k.are_spreads) h.whole) k.whole

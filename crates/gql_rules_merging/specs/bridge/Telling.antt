-- Which of the pairs that are found are told.
use Rattle.std.specs.Prelude.{◌≡◌, ℕ, Bool, true, not, ◌&&◌, ◌||◌, if◌then◌else◌, List, [], is_none, None}
use Rattle.std.specs.List.{Contains, IsDistinct, flat_map, list_any}
use Rattle.gql_diag_messages.specs.declared.diagnostic_data.DiagnosticData.{DiagnosticData}
use Rattle.gql_graph.specs.Pairs.{IsCompared}
use Rattle.gql_graph.specs.bridge.Steps.{is_pair}
use Rattle.gql_graph.specs.declared.pair.Pair.{Pair}
use Rattle.gql_schema_types.specs.declared.types.ExtendedType.{ExtendedType}
use Rattle.gql_rules_merging.specs.FieldSelectionMerging.{below, conflict_of, same_fields, sets_of}
use Rattle.gql_rules_merging.specs.Numbering.{Selected, Numbered}
use Rattle.gql_rules_merging.specs.ResponseKeys.{key_numbers as numbers}

abbrev pub key_numbers : List Selected → List ℕ
key_numbers fields = numbers fields

abbrev pub in_full : Pair → Pair
in_full p = record { first = p.first; second = p.second; in_full = true }

module _ (types : List ExtendedType) (fields : List Selected) (seen : List Pair) where
  -- a pair that breaks the rule, in full rather than by type alone
  abbrev pub is_told : Pair → Bool
  is_told p = is_none (below types fields p) && (p.in_full || not (list_any (is_pair (in_full p)) seen))

  abbrev pub told_of : Pair → List DiagnosticData
  told_of p = if is_told p then conflict_of types fields p else []

-- what is told of a document whose fields are numbered
pub record AreConflictsOf (types : List ExtendedType) (document : Numbered) (told : List DiagnosticData) : Type 0 where
  pub pairs : List Pair
  pub distinct : IsDistinct same_fields pairs
  pub all : (p : Pair) → IsCompared (sets_of types document) p → below types document.fields p ≡ None
      → (q : Pair) × Contains pairs q × (same_fields p q ≡ true)
  pub only : (p : Pair) → Contains pairs p → IsCompared (sets_of types document) p × (below types document.fields p ≡ None)
  pub whole : told ≡ flat_map (conflict_of types document.fields) pairs

-- no compared pair breaks the rule
abbrev pub NoneBreaks : List ExtendedType → Numbered → Type 0
NoneBreaks types document = (p : Pair) → IsCompared (sets_of types document) p → below types document.fields p ≡ None → ⊥

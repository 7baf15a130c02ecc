-- Field Selection Merging: section 5.3.2 of GraphQL October 2021.
use Rattle.std.specs.Prelude.{◌≡◌, ℕ, Bool, true, false, not, ◌&&◌, ◌||◌, ◌==◌}
use Rattle.std.specs.Prelude.{nat_lt, if◌then◌else◌, List, [], ◌∷◌, Option, Some, None, is_some, slice_get}
use Rattle.std.specs.List.{Contains, IsDistinct, flat_map}
use Rattle.std.specs.Option.{option_map_or, option_and_then}
use Rattle.std.specs.Str.{bytes_eq}
use Rattle.gql_source.specs.Span.{Span}
use Rattle.gql_diag_messages.specs.declared.diagnostic_data.DiagnosticData.{DiagnosticData}
use Rattle.gql_document_types.specs.declared.document.ExecutableDocument.{ExecutableDocument}
use Rattle.gql_graph.specs.Pairs.{Sets, IsCompared}
use Rattle.gql_graph.specs.declared.pair.Pair.{Pair}
use Rattle.gql_schema_types.specs.Types.{type_called, as_object}
use Rattle.gql_schema_types.specs.declared.types.ExtendedType.{ExtendedType}
use Rattle.gql_rules_merging.specs.ConflictingFieldArgument.{arguments_conflict, conflicting_arguments}
use Rattle.gql_rules_merging.specs.ConflictingFieldName.{names_conflict, conflicting_names}
use Rattle.gql_rules_merging.specs.ConflictingFieldType.{types_conflict, conflicting_types}
use Rattle.gql_rules_merging.specs.Numbering.{Selected, Numbered, numbered}
use Rattle.gql_rules_merging.specs.ResponseKeys.{key_numbers}

-- ---- which of two fields comes first in the text: by file and by place, and what has no place before all else

abbrev pub is_before : Option Span → Option Span → Bool
is_before _ None = false
is_before None (Some _) = true
is_before (Some one) (Some other) =
    nat_lt one.file_id.number other.file_id.number
    || ((one.file_id.number == other.file_id.number) && nat_lt one.offset other.offset)

-- what is told of two fields in the order of the text: that their types conflict, or else their names, or else their arguments
abbrev pub first_conflict : Bool → Bool → Selected → Selected → DiagnosticData
first_conflict of_types of_names earlier later =
    if of_types then conflicting_types earlier later
    else if of_names then conflicting_names earlier later
    else conflicting_arguments earlier later

abbrev pub in_order : Bool → Bool → Selected → Selected → DiagnosticData
in_order of_types of_names one other =
    if is_before other.location one.location then first_conflict of_types of_names other one
    else first_conflict of_types of_names one other

abbrev pub differ : Selected → Selected → Bool
differ one other = names_conflict one other || arguments_conflict one other

-- what is selected in the field of a number
abbrev pub items : List Selected → ℕ → List ℕ
items fields a = option_map_or (λ (field : Selected). field.items) (slice_get fields a) []

module _ (types : List ExtendedType) where
  abbrev pub is_object_name : List ℕ → Bool
  is_object_name name = is_some (option_and_then as_object (type_called name types))

  -- fields of two different object types, of which no object has both
  abbrev pub are_apart : Selected → Selected → Bool
  are_apart one other =
      not (bytes_eq one.parent.text other.parent.text) && (is_object_name one.parent.text && is_object_name other.parent.text)

  -- the rule is broken by two fields themselves, which are compared in full or by type alone
  abbrev pub is_broken : Bool → Selected → Selected → Bool
  is_broken in_full one other =
      types_conflict types one other || ((in_full && not (are_apart one other)) && differ one other)

  -- below fields of two different object types pairs are compared by type alone
  abbrev pub below_fields : Bool → Selected → Selected → Option Bool
  below_fields in_full one other = if is_broken in_full one other then None else Some (in_full && not (are_apart one other))

  abbrev pub conflict : Selected → Selected → DiagnosticData
  conflict one other = in_order (types_conflict types one other) (names_conflict one other) one other

  module _ (fields : List Selected) where
    abbrev pub below : Pair → Option Bool
    below p = option_and_then (λ one. option_and_then (below_fields p.in_full one) (slice_get fields p.second)) (slice_get fields p.first)

    abbrev pub conflict_of : Pair → List DiagnosticData
    conflict_of p =
        option_map_or (λ one. option_map_or (λ other. conflict one other ∷ []) (slice_get fields p.second) []) (slice_get fields p.first) []

  -- the sets of a document, by which its pairs are compared
  abbrev pub sets_of : Numbered → Sets
  sets_of document = record {
    fragments = document.fragments;
    operations = document.operations;
    items = items document.fields;
    keys = key_numbers document.fields;
    below = below document.fields;
  }

-- the same two fields, be they compared in full or by type alone
abbrev pub same_fields : Pair → Pair → Bool
same_fields p q = (p.first == q.first) && (p.second == q.second)

-- What is told of a document: a diagnostic for each compared pair that breaks the rule itself, once.
pub record AreConflicts (types : List ExtendedType) (document : ExecutableDocument) (told : List DiagnosticData) : Type 0 where
  pub pairs : List Pair
  pub distinct : IsDistinct same_fields pairs
  pub all : (p : Pair) → IsCompared (sets_of types (numbered document)) p → below types (numbered document).fields p ≡ None
      → (q : Pair) × Contains pairs q × (same_fields p q ≡ true)
  pub only : (p : Pair) → Contains pairs p → IsCompared (sets_of types (numbered document)) p × (below types (numbered document).fields p ≡ None)
  pub whole : told ≡ flat_map (conflict_of types (numbered document).fields) pairs

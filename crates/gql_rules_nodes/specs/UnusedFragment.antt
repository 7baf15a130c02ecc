-- A fragment is used by an operation, if only through others: section 5.5.1.4 of GraphQL October 2021.
use Rattle.std.specs.Prelude.{◌≡◌, ℕ, ◌+◌, Bool, not, List, [], ◌∷◌, ◌++◌, None}
use Rattle.std.specs.List.{flat_map}
use Rattle.gql_diag_messages.specs.declared.rule.Rule.TheVariants.{UnusedFragment}
use Rattle.gql_diag_messages.specs.declared.diagnostic_data.DiagnosticData.{DiagnosticData}
use Rattle.gql_document_types.specs.Spreads.{spread_numbers, spread_graph}
use Rattle.gql_document_types.specs.declared.document.ExecutableDocument.{ExecutableDocument}
use Rattle.gql_document_types.specs.declared.fragment.Fragment.{Fragment}
use Rattle.gql_rules_values.specs.Faults.{fault, only_if}
use Rattle.gql_rules_nodes.specs.Reached.{AreReached, is_reached}

-- the fragments that operations spread, by their numbers
abbrev pub operation_spreads : ExecutableDocument → List ℕ
operation_spreads document = flat_map (λ operation. spread_numbers document.fragments operation.selection_set.selections) document.operations

abbrev pub unless_used : Bool → Fragment → List DiagnosticData
unless_used used fragment = only_if (not used) (fault UnusedFragment (fragment.name.text ∷ []) fragment.location None)

-- those of these fragments that are not marked, numbered from v on
abbrev pub unreached_from : List ℕ → ℕ → List Fragment → List DiagnosticData
unreached_from states v [] = []
unreached_from states v (fragment ∷ fragments) = unless_used (is_reached states v) fragment ++ unreached_from states (v + 1) fragments

-- What is told of a document: a diagnostic for each fragment that no operation reaches by spreads.
pub record AreUnused (document : ExecutableDocument) (told : List DiagnosticData) : Type 0 where
  pub states : List ℕ
  pub used : AreReached (spread_graph document.fragments) (operation_spreads document) states
  pub whole : told ≡ unreached_from states 0 document.fragments

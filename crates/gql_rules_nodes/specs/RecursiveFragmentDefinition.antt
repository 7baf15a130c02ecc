-- No fragment spreads itself, not even through others: section 5.5.2.2 of GraphQL October 2021.
use Rattle.std.specs.Prelude.{◌≡◌, ℕ, ◌+◌, Bool, List, [], ◌∷◌, ◌++◌, length, Option, None}
use Rattle.gql_diag_messages.specs.declared.rule.Rule.TheVariants.{RecursiveFragmentDefinition}
use Rattle.gql_diag_messages.specs.declared.diagnostic_data.DiagnosticData.{DiagnosticData}
use Rattle.gql_document_types.specs.Spreads.{spread_graph}
use Rattle.gql_document_types.specs.declared.fragment.Fragment.{Fragment}
use Rattle.gql_rules_values.specs.Faults.{fault, long_chain, only_if}
use Rattle.gql_graph.specs.Chains.{AreJudged, is_marked}
use Rattle.gql_rules_nodes.specs.WayRound.{first_recursive, way_round, way_text}

module _ (fragments : List Fragment) (nexts : List (Option ℕ)) where
  -- the fragment of a number spreads itself, and the names on the first way round
  abbrev pub recursive_fault : ℕ → Fragment → DiagnosticData
  recursive_fault v fragment =
      fault RecursiveFragmentDefinition (fragment.name.text ∷ way_text fragments (way_round nexts v) ∷ []) fragment.location None

-- those of these fragments that are marked, numbered from v on
abbrev pub recursive_from : List Fragment → List Bool → List (Option ℕ) → ℕ → List Fragment → List DiagnosticData
recursive_from fragments recursive nexts v [] = []
recursive_from fragments recursive nexts v (x ∷ xs) =
    only_if (is_marked recursive v) (recursive_fault fragments nexts v x) ++ recursive_from fragments recursive nexts (v + 1) xs

abbrev pub long_from : List Bool → ℕ → List Fragment → List DiagnosticData
long_from long v [] = []
long_from long v (x ∷ xs) = only_if (is_marked long v) (long_chain x.name) ++ long_from long (v + 1) xs

-- What is told of fragments: a diagnostic for each that is on a cycle of spreads, and one for each from which a chain of more than 32 names
-- begins though no cycle is reached.
pub record AreRecursive (fragments : List Fragment) (told : List DiagnosticData) : Type 0 where
  pub recursive : List Bool
  pub long : List Bool
  pub judged : AreJudged (spread_graph fragments) (length fragments) recursive long
  pub whole : told ≡ recursive_from fragments recursive (first_recursive (spread_graph fragments) recursive) 0 fragments ++ long_from long 0 fragments

-- The cost of an operation, from the walk through it.
use Rattle.std.proofs.Common.{arith, ◌≡◌, ℕ, suc, ◌+◌, ◌<◌, ◌≤◌, List, Option, sym, subst}
use Rattle.gql_document_types.specs.Spreads.{spread_graph}
use Rattle.gql_document_types.specs.declared.document.ExecutableDocument.{ExecutableDocument}
use Rattle.gql_document_types.specs.declared.fragment.Fragment.{Fragment}
use Rattle.gql_document_types.specs.declared.selection.Selection.{Selection}
use Rattle.gql_collect.specs.Room.{all_selections}
use Rattle.gql_graph.specs.Ranks.{IsRanked}
use Rattle.gql_cost.proofs.Fixed.{most-fixed}
use Rattle.gql_cost.specs.Sum.{sum, cost}
use Rattle.gql_cost.specs.bridge.Walked.{HaveSums, WalkedAll}
use Rattle.gql_cost.proofs.Selections.{all-total}
use Rattle.gql_cost.proofs.Walks.{below-most, waiting-start}

pub have-sums : (items : ℕ) (all : List Fragment) (rank : ℕ → ℕ) → IsRanked (spread_graph all) rank → HaveSums items all
have-sums items all rank ranked name = sym (most-fixed items all rank ranked name)

-- a walk through the fragments of one document is one through those of the same
pub walked-in : (items limit : ℕ) (one other : ExecutableDocument) (selections : List Selection) (memo : List (Option ℕ)) (steps n : ℕ) (memo' : List (Option ℕ)) (steps' : ℕ)
    → one ≡ other → WalkedAll items (suc limit) one.fragments selections memo steps n memo' steps'
    → WalkedAll items (suc limit) other.fragments selections memo steps n memo' steps'
walked-in items limit one other selections memo steps n memo' steps' same walked =
    subst (λ (d : ExecutableDocument). WalkedAll items (suc limit) d.fragments selections memo steps n memo' steps') same walked

module _ (items limit : ℕ) (all : List Fragment) (selections : List Selection) (memo : List (Option ℕ)) (steps n : ℕ) (memo' : List (Option ℕ)) (steps' : ℕ)
    (walked : WalkedAll items (suc limit) all selections memo steps n memo' steps') where
  pub looks-all : steps' ≤ steps + all_selections all selections
  looks-all = omega (arith, walked.looks, waiting-start all memo, all-total all selections)

  pub cost-is : (k : ℕ) → k ≡ n + 1 → k ≤ limit → k ≡ cost items all selections
  cost-is k is low = omega (arith, is, below-most (suc limit) n (sum items all selections) walked.is (omega (arith, is, low)))

  pub cost-within : (k : ℕ) → k ≡ n + 1 → k ≤ limit → cost items all selections ≤ limit
  cost-within k is low = omega (arith, low, cost-is k is low)

  pub cost-above : limit < n + 1 → limit < cost items all selections
  cost-above high = omega (arith, high, walked.is.under)

-- What is told of fragments on cycles, and of chains that are too long.
use Rattle.std.proofs.Common.{◌≡◌, ℕ, Bool, Option, List, ◌++◌, length, refl, ap, ◌∙◌, append_assoc}
use Rattle.gql_diag_messages.specs.declared.diagnostic_data.DiagnosticData.{DiagnosticData}
use Rattle.gql_document_types.specs.Spreads.{spread_graph}
use Rattle.gql_document_types.specs.declared.fragment.Fragment.{Fragment}
use Rattle.gql_graph.specs.Chains.{AreJudged}
use Rattle.gql_rules_nodes.specs.RecursiveFragmentDefinition.{AreRecursive, recursive_from, long_from}
use Rattle.gql_rules_nodes.specs.WayRound.{first_recursive}

pub told : (fragments : List Fragment) (recursive long : List Bool) (nexts : List (Option ℕ)) (faults mid new : List DiagnosticData) → AreJudged (spread_graph fragments) (length fragments) recursive long
    → nexts ≡ first_recursive (spread_graph fragments) recursive → mid ≡ faults ++ recursive_from fragments recursive nexts 0 fragments → new ≡ mid ++ long_from long 0 fragments
    → (all : List DiagnosticData) × AreRecursive fragments all × (new ≡ faults ++ all)
told fragments recursive long nexts faults mid new judged are first then =
    let graph = spread_graph fragments in
    let cycles = recursive_from fragments recursive (first_recursive graph recursive) 0 fragments in
    let chains = long_from long 0 fragments in (
      cycles ++ chains,
      record { recursive = recursive; long = long; judged = judged; whole = refl },
      then ∙ ap (λ l. l ++ chains) (first ∙ ap (λ n. faults ++ recursive_from fragments recursive n 0 fragments) are) ∙ append_assoc faults cycles chains,
    )

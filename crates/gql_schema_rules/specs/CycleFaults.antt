-- What is told of names that lead back to themselves, and of chains of names that are too long: sections 3.7, 3.10 and 3.13 of GraphQL October 2021.
use Rattle.std.specs.Prelude.{◌≡◌, ℕ, ◌+◌, Bool, ◌&&◌, List, [], ◌∷◌, ◌++◌}
use Rattle.gql_ast_base.specs.Names.{Named}
use Rattle.gql_diag_messages.specs.declared.rule.Rule.{Rule}
use Rattle.gql_diag_messages.specs.declared.diagnostic_data.DiagnosticData.{DiagnosticData}
use Rattle.gql_rules_values.specs.Faults.{name_fault, long_chain, only_if}
use Rattle.gql_rules_values.specs.Written.{is_written}
use Rattle.gql_graph.specs.Chains.{AreJudged, is_marked}
use Rattle.gql_graph.specs.Graph.{Graph}

-- what has this name, if it is not built in: whether it leads back to itself, and whether it begins a long chain
abbrev pub name_faults : Rule → Bool → Bool → Named → List DiagnosticData
name_faults rule recursive long name =
    only_if (recursive && is_written name.location) (name_fault rule name) ++ only_if (long && is_written name.location) (long_chain name)

-- each of these things, whose nodes are numbered from one on
abbrev pub faults_from : {X : Type 0} → (X → Named) → Rule → List Bool → List Bool → ℕ → List X → List DiagnosticData
faults_from own rule recursive long v [] = []
faults_from own rule recursive long v (x ∷ xs) =
    name_faults rule (is_marked recursive v) (is_marked long v) (own x) ++ faults_from own rule recursive long (v + 1) xs

-- What is told of things that are the first nodes of a graph: a diagnostic for each that is on a cycle, and for each from which a chain of
-- more than 32 names begins though no cycle is reached.
pub record IsTold {X : Type 0} (own : X → Named) (rule : Rule) (g : Graph) (named : ℕ) (things : List X) (told : List DiagnosticData) : Type 0 where
  pub recursive : List Bool
  pub long : List Bool
  pub judged : AreJudged g named recursive long
  pub whole : told ≡ faults_from own rule recursive long 0 things

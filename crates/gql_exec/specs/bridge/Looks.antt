-- What only private clauses and proofs cite, beside `Looks`.
use Rattle.std.specs.Prelude.{ℕ, List}
use Rattle.gql_collect.specs.bridge.Plan.{most_looks}
use Rattle.gql_collect.specs.Ways.{Way}
use Rattle.gql_collect.specs.bridge.Ways.{Turn, Grows, turns_to, ways_to}
use Rattle.gql_collect.specs.declared.plan.Node.{Node}
use Rattle.gql_collect.specs.declared.plan.Part.{Part}
use Rattle.gql_exec.specs.bridge.Planning.{ground_in}
use Rattle.gql_exec.specs.declared.executing.Executing.{Executing}

-- nodes and parts of a plan have grown while looks were counted, by turns and by ways of which this holds
abbrev pub NodesGrow : Executing → (before after : ℕ) → (old new : List Node) → (Turn → Type 0) → Type 0
NodesGrow executing before after old new Holds = Grows (most_looks (ground_in executing)) before after (λ n. turns_to n old) (λ n. turns_to n new) Holds

abbrev pub PartsGrow : Executing → (before after : ℕ) → (old new : List Part) → (Way → Type 0) → Type 0
PartsGrow executing before after old new Holds = Grows (most_looks (ground_in executing)) before after (λ n. ways_to n old) (λ n. ways_to n new) Holds

use Rattle.std.proofs.Common.{◌≡◌, ℕ, length}
use Rattle.gql_graph.specs.Chains.{has_chain, is_marked}
use Rattle.gql_graph.proofs.chains.chained.Given as goal

-- marked is each node from which a chain of so many names more begins
abbrev pub invariant-loop-round : goal.invariant-loop-round
invariant-loop-round l = record { count : length l.marks.items ≡ length l.graph; marks : (v : ℕ) → is_marked l.marks.items v ≡ has_chain l.graph l.named l._round v }

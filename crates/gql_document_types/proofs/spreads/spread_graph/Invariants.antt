use Rattle.std.proofs.Common.{◌≡◌, ◌++◌, drop, map}
use Rattle.gql_document_types.specs.Spreads.{spreads_in}
use Rattle.gql_document_types.proofs.spreads.spread_graph.Given as goal

-- what is there and what is left make the whole
abbrev pub invariant-loop-fragment : goal.invariant-loop-fragment
invariant-loop-fragment l = l.graph ++ map (spreads_in l.fragments) (drop l.fragment-index l.fragment-items) ≡ map (spreads_in l.fragments) l.fragments

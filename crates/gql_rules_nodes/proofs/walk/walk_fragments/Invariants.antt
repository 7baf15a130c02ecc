use Rattle.std.proofs.Common.{◌≡◌, ◌++◌, drop}
use Rattle.std.specs.List.{flat_map}
use Rattle.gql_rules_nodes.specs.Nodes.{fragment_nodes}
use Rattle.gql_rules_nodes.proofs.walk.walk_fragments.Given as goal

-- what is found and what is left make the whole
abbrev pub invariant-loop-fragment : goal.invariant-loop-fragment
invariant-loop-fragment g l =
    l.found ++ flat_map (g.V.Visitor.at l.visitor) (flat_map fragment_nodes (drop l.fragment-index l.fragments))
    ≡ l.fn.found ++ flat_map (g.V.Visitor.at l.visitor) (flat_map fragment_nodes l.fragments)

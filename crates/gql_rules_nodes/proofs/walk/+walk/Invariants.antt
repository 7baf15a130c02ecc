use Rattle.std.proofs.Common.{◌≡◌, ◌++◌, drop}
use Rattle.std.specs.List.{flat_map}
use Rattle.gql_rules_nodes.specs.Nodes.{selections_nodes}
use Rattle.gql_rules_nodes.proofs.walk.+walk.Given as goal

-- what is found and what is left make the whole
abbrev pub invariant-walk_selections-loop-selection : goal.invariant-walk_selections-loop-selection
invariant-walk_selections-loop-selection g l =
    l.found ++ flat_map (g.V.Visitor.at l.visitor) (selections_nodes l.ty (drop l.selection-index l.selection-items))
    ≡ l.fn.found ++ flat_map (g.V.Visitor.at l.visitor) (selections_nodes l.ty l.selection-items)

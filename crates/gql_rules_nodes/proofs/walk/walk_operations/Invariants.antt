use Rattle.std.proofs.Common.{◌≡◌, ◌++◌, drop}
use Rattle.std.specs.List.{flat_map}
use Rattle.gql_rules_nodes.specs.Nodes.{operation_nodes}
use Rattle.gql_rules_nodes.proofs.walk.walk_operations.Given as goal

-- what is found and what is left make the whole
abbrev pub invariant-loop-operation : goal.invariant-loop-operation
invariant-loop-operation g l =
    l.found ++ flat_map (g.V.Visitor.at l.visitor) (flat_map operation_nodes (drop l.operation-index l.operations))
    ≡ l.fn.found ++ flat_map (g.V.Visitor.at l.visitor) (flat_map operation_nodes l.operations)

use Rattle.std.proofs.Common.{◌≡◌, ◌++◌, drop}
use Rattle.std.specs.List.{flat_map}
use Rattle.gql_rules_nodes.specs.Nodes.{selections_nodes}
use Rattle.gql_rules.specs.Uses.{node_uses}
use Rattle.gql_rules.specs.bridge.Views.{uses_of}
use Rattle.gql_rules.proofs.document_uses.+selected.Given as goal

-- what is there and what is left make the whole
abbrev pub invariant-add_selections-loop-selection : goal.invariant-add_selections-loop-selection
invariant-add_selections-loop-selection l =
    uses_of l.uses ++ flat_map (node_uses l.schema) (selections_nodes l.ty (drop l.selection-index l.selection-items))
    ≡ uses_of l.fn.uses ++ flat_map (node_uses l.schema) (selections_nodes l.ty l.selection-items)

use Rattle.std.proofs.Common.{◌≡◌, ◌+◌, ◌*◌, ◌++◌, drop}
use Rattle.gql_ast_base.specs.Forest.{plain}
use Rattle.gql_ast_base.specs.bridge.Forest.{forest}
use Rattle.gql_ast_base.specs.Parts.{head}
use Rattle.gql_ast_base.specs.bridge.Parts.{size}
use Rattle.gql_ast.specs.Selections.{selections, choices}
use Rattle.gql_ast.proofs.selection.conversion.+selection.Given as goal

-- nothing is added yet, and the first choice is still to come
abbrev pub invariant-add_selection-loop-node : goal.invariant-add_selection-loop-node
invariant-add_selection-loop-node l =
    (l.list ≡ l.fn.list) × (head (choices l.source.text.now l.source.file_id (forest (drop l.node-index l.parts))) ≡ head (choices l.source.text.now l.source.file_id (forest l.parts)))

abbrev pub invariant-selections-loop-node : goal.invariant-selections-loop-node
invariant-selections-loop-node l =
    l.list ++ selections l.source.text.now l.source.file_id (forest (drop l.node-index l.nodes)) ≡ selections l.source.text.now l.source.file_id (forest l.nodes)

abbrev pub decreases-selections : goal.decreases-selections
decreases-selections l = 2 * size (forest l.nodes.now)

abbrev pub decreases-selected : goal.decreases-selected
decreases-selected l = 2 * size (forest l.nodes.now) + 1

abbrev pub decreases-add_selection : goal.decreases-add_selection
decreases-add_selection l = 2 * size (plain l.tree.now).children

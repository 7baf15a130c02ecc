use Rattle.std.proofs.Common.{◌≡◌, ◌+◌, ◌*◌, drop}
use Rattle.gql_cst.specs.Forest.{plain}
use Rattle.gql_cst.specs.bridge.Forest.{forest}
use Rattle.gql_ast_base.specs.Parts as parts
use Rattle.gql_ast_base.specs.bridge.Parts as parts_bridge
use Rattle.gql_ast_base.proofs.node.+start_of.Given as goal

abbrev pub invariant-start_of-loop-node : goal.invariant-start_of-loop-node
invariant-start_of-loop-node l = parts.start_of (forest (drop l.node-index l.nodes)) ≡ parts.start_of (forest l.nodes)

abbrev pub decreases-start_of : goal.decreases-start_of
decreases-start_of l = 2 * parts_bridge.size (forest l.nodes.now)

abbrev pub decreases-tree_start : goal.decreases-tree_start
decreases-tree_start l = 2 * parts_bridge.size (plain l.tree.now).children + 1

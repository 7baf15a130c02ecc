use Rattle.std.proofs.Common.{◌≡◌, ◌+◌, ◌-◌, ◌*◌, take}
use Rattle.gql_cst.specs.Forest.{plain}
use Rattle.gql_cst.specs.bridge.Forest.{forest}
use Rattle.gql_ast_base.specs.Parts as parts
use Rattle.gql_ast_base.specs.bridge.Parts as parts_bridge
use Rattle.gql_ast_base.proofs.node.+end_of.Given as goal

abbrev pub invariant-end_of-loop-index : goal.invariant-end_of-loop-index
invariant-end_of-loop-index l = parts.end_of (forest (take (l.index-end - l.index) l.nodes)) ≡ parts.end_of (forest l.nodes)

abbrev pub decreases-end_of : goal.decreases-end_of
decreases-end_of l = 2 * parts_bridge.size (forest l.nodes.now)

abbrev pub decreases-tree_end : goal.decreases-tree_end
decreases-tree_end l = 2 * parts_bridge.size (plain l.tree.now).children + 1

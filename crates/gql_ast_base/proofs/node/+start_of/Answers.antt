use Rattle.std.proofs.Common.{arith}
use Rattle.gql_ast_base.proofs.Rows.{size-item}
use Rattle.gql_ast_base.proofs.node.+start_of.Goals as goal

pub start_of-tree_start-requires : goal.start_of-tree_start-requires
start_of-tree_start-requires t c =
    (omega (arith, size-item c.args.nodes.now c.loop-node.node-index c.node-item.result (omega arith) c.node-item.is), tt)

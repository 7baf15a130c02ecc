use Rattle.std.proofs.Common.{arith}
use Rattle.gql_ast_base.proofs.Rows.{size-item, size-of}
use Rattle.gql_ast_base.proofs.value.conversion.+value.Goals as goal

pub add_value-values-requires : goal.add_value-values-requires
add_value-values-requires t c = (
  omega (
    arith,
    size-of c.as_slice-parts.result.now _ _ c.as_slice-parts.ensures.value c.children.ensures,
    size-of c.as_slice.result.now _ _ c.as_slice.ensures.value c.children-in-loop-node.ensures,
    size-item c.as_slice-parts.result.now c.loop-node.node-index c.node-item.result (omega arith) c.node-item.is,
  ),
  tt,
)

pub add_value-members-requires : goal.add_value-members-requires
add_value-members-requires t c = (
  omega (
    arith,
    size-of c.as_slice-parts.result.now _ _ c.as_slice-parts.ensures.value c.children.ensures,
    size-of c.as_slice-in-loop-node.result.now _ _ c.as_slice-in-loop-node.ensures.value c.children-in-loop-node-2.ensures,
    size-item c.as_slice-parts.result.now c.loop-node.node-index c.node-item.result (omega arith) c.node-item.is,
  ),
  tt,
)

pub members-values-requires : goal.members-values-requires
members-values-requires t c = (
  omega (
    arith,
    size-of c.as_slice.result.now _ _ c.as_slice.ensures.value c.children.ensures,
    size-item c.args.nodes.now c.loop-node.node-index c.node-item.result (omega arith) c.node-item.is,
  ),
  tt,
)

pub values-add_value-requires : goal.values-add_value-requires
values-add_value-requires t c =
    (omega (arith, size-item c.args.nodes.now c.loop-node.node-index c.node-item.result (omega arith) c.node-item.is), tt)

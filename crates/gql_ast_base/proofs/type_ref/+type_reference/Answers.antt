use Rattle.std.proofs.Common.{arith}
use Rattle.gql_ast_base.proofs.Rows.{size-item, size-of}
use Rattle.gql_ast_base.proofs.type_ref.+type_reference.Goals as goal

pub first_type_form-type_form-requires : goal.first_type_form-type_form-requires
first_type_form-type_form-requires t c =
    (omega (arith, size-item c.args.nodes.now c.loop-node.node-index c.node-item.result (omega arith) c.node-item.is), tt)

pub first_type-first_type_form-requires : goal.first_type-first_type_form-requires
first_type-first_type_form-requires t c = (
  omega (
    arith,
    size-of c.as_slice-below.result.now _ _ c.as_slice-below.ensures.value c.children.ensures,
    size-item c.args.nodes.now c.loop-node.node-index c.node-item.result (omega arith) c.node-item.is,
  ),
  tt,
)

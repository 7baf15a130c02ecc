use Rattle.std.proofs.Common.{◌+◌, ◌-◌, length, take, sym, ap, ◌∙◌, arith}
use Rattle.gql_cst.specs.bridge.Forest.{forest}
use Rattle.gql_ast_base.specs.Parts.{or_else, end_of}
use Rattle.gql_ast_base.proofs.Rows.{size-item, end_of-back}
use Rattle.gql_ast_base.proofs.node.+end_of.Goals as goal

pub end_of-tree_end-requires : goal.end_of-tree_end-requires
end_of-tree_end-requires t c =
    (omega (arith, size-item c.args.nodes.now (length c.args.nodes.now - 1 - c.loop-index.index) c.index-nodes-nodes.result (omega arith) c.index-nodes-nodes.is), tt)

pub end_of-returns-in-Some : goal.end_of-returns-in-Some
end_of-returns-in-Some t c =
    let nodes = c.args.nodes.now in
    let i = c.loop-index.index in
    ap (λ o. or_else o (end_of (forest (take (length nodes - (i + 1)) nodes)))) c.in-Some.ensures
    ∙ sym (end_of-back nodes i c.index-nodes-nodes.result (omega arith) c.index-nodes-nodes.is) ∙ c.loop-index.invariant

pub end_of-loop-index-preserved : goal.end_of-loop-index-preserved
end_of-loop-index-preserved t c =
    let nodes = c.args.nodes.now in
    let i = c.loop-index.index in
    ap (λ o. or_else o (end_of (forest (take (length nodes - (i + 1)) nodes)))) (sym c.in_default.is ∙ c.tree_end.ensures)
    ∙ sym (end_of-back nodes i c.index-nodes-nodes.result (omega arith) c.index-nodes-nodes.is) ∙ c.loop-index.invariant

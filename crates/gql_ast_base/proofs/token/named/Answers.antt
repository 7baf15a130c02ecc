use Rattle.gql_cst.specs.Forest.{plain}
use Rattle.gql_ast_base.proofs.Pieces.{word-lies, word-named}
use Rattle.gql_ast_base.proofs.token.named.Goals as goal

pub cut-requires : goal.cut-requires
cut-requires c =
    let lies = word-lies c.args.source.now.text.now c.args.found.now (plain c.args.tree.now) c.requires in
    rw c.range.ensures (record { in_order = lies.in_order; within = lies.within; found = lies.is })

pub at-requires : goal.at-requires
at-requires c =
    rw c.in_ok-text.ensures (word-named c.args.source.now.text.now c.args.found.now (plain c.args.tree.now) c.requires)

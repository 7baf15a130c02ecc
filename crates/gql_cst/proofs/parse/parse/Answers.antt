use Rattle.gql_cst.proofs.Making.{made-tree}
use Rattle.gql_cst.proofs.parse.parse.Goals as goal

pub returns : goal.returns
returns c =
    let r = made-tree c.args.start c.args.text.now c.args.limits.now c.args.kind c.in_ok-out.field-0 c.in_ok-tree.tree c.requires.kind c.in_ok-out.ensures c.in_ok-tree.ensures in
    record { parse = r.parse; accepts = r.accepts; cut = r.cut; spans = r.spans }

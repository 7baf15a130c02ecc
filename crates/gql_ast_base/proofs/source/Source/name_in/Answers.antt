use Rattle.gql_ast_base.proofs.Pieces.{piece-lies}
use Rattle.gql_ast_base.proofs.source.Source.name_in.Goals as goal

pub cut-requires : goal.cut-requires
cut-requires c =
    let lies = piece-lies c.args.self.now.text.now c.in-Some.found.now c.args.range.start c.args.range.end c.in-Some.ensures in
    record { in_order = lies.in_order; within = lies.within; found = lies.is }

pub new-place-requires : goal.new-place-requires
new-place-requires c =
    (piece-lies c.args.self.now.text.now c.in-Some.found.now c.args.range.start c.args.range.end c.in-Some.ensures).in_order

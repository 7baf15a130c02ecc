use Rattle.std.proofs.Common.{get_or, ap, ◌∙◌, arith}
use Rattle.gql_ast_reader.proofs.Pool.{wraps}
use Rattle.gql_ast_reader.proofs.open_rows.OpenRows.wrap_apart.Goals as goal

pub returns : goal.returns
returns c = λ inner os late keeps.
    let row = c.in-Some-get.row.now in
    wraps _ _ c.args.self.now c.begin.new.self c.end.new.self _ c.args.kind c.in-Some.at _ row inner os (omega (arith, c.in-Some.ensures)) (omega arith)
    (c.in-Some-get.ensures.lookup.1 ∙ ap (λ l. get_or l c.in-Some.at row) c.deref.ensures.value) c.in_ok-begin.ensures
    (c.swap.ensures.by_index.3 row) c.in_ok-end.ensures late keeps

use Rattle.std.proofs.Common.{◌-◌, vec_len, arith}
use Rattle.gql_ast_reader.proofs.Pool.{last-begun}
use Rattle.gql_ast_reader.proofs.handing.push_row.Goals as goal

pub returns-in-Some-clause-items : goal.returns-in-Some-clause-items
returns-in-Some-clause-items c =
    last-begun c.args.rows.now.items c.push.new.self.items c.new.result c.begin.new.self _ (vec_len c.push.new.self - 1) c.in_ok-push.ensures.items
    (omega (arith, c.in_ok-push.ensures.len, c.args.rows.now.ok.0)) c.begin.ensures

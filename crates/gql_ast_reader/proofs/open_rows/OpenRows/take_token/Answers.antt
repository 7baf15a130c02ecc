use Rattle.std.proofs.Common.{arith}
use Rattle.gql_ast_reader.proofs.Pool.{grown-at}
use Rattle.gql_ast_reader.proofs.open_rows.OpenRows.take_token.Goals as goal

pub returns : goal.returns
returns c = λ tree inner os child keeps. record {
  depth = keeps.depth;
  kept = grown-at _ _ c.args.self.now.rows.items inner os tree _ c.saturating_sub.result _ _ keeps.kept
      (omega (arith, keeps.depth)) c.in-Some.ensures.value child c.in_ok-take_token.ensures;
}

use Rattle.std.proofs.Common.{arith}
use Rattle.gql_ast_base.specs.SyntaxKind.TheVariants as kind
use Rattle.gql_ast_reader.proofs.Pool.{wrapped-at}
use Rattle.gql_ast_reader.proofs.open_rows.OpenRows.wrap_non_null.Goals as goal

pub returns-in-Some : goal.returns-in-Some
returns-in-Some c = λ text file inner os late keeps. record {
  depth = keeps.depth;
  kept = wrapped-at text file c.args.self.now.rows.items inner os kind.NonNullType c.saturating_sub.result _ _ late keeps.kept
      (omega (arith, keeps.depth)) c.in-Some.ensures.value (c.wrap_non_null.ensures text file);
}

use Rattle.std.proofs.Common.{ap}
use Rattle.gql_ast_reader.proofs.Pool.{ends}
use Rattle.gql_ast_reader.proofs.maker.MakerOutput.end.Goals as goal

pub returns : goal.returns
returns g c = λ at inner outer os waiting is h. record {
  is_text = h.is_text;
  is_file = h.is_file;
  keeps = ends _ _ c.args.self.now.rows _ inner outer os c.args.kind c.in_ok-end.ensures (ap (λ n. n.kind) is) h.keeps;
  ignored = h.ignored;
}

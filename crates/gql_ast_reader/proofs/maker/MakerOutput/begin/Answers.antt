use Rattle.std.proofs.Common.{refl}
use Rattle.gql_ast_reader.proofs.Pool.{begins}
use Rattle.gql_ast_reader.proofs.maker.MakerOutput.begin.Goals as goal

pub returns : goal.returns
returns g c = λ os waiting node h. record {
  is_text = h.is_text;
  is_file = h.is_file;
  keeps = begins _ _ c.args.self.now.rows _ os _ _ c.in_ok-begin.ensures node refl refl h.keeps;
  ignored = h.ignored;
}

use Rattle.gql_ast_reader.proofs.Comes.{ignored-more}
use Rattle.gql_ast_reader.proofs.maker.MakerOutput.ignored.Goals as goal

pub returns : goal.returns
returns g c = λ at os waiting h. record {
  is_text = h.is_text;
  is_file = h.is_file;
  keeps = h.keeps;
  ignored = ignored-more waiting c.args._range h.ignored;
}

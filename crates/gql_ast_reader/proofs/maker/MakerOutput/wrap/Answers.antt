use Rattle.gql_ast_reader.proofs.maker.MakerOutput.wrap.Goals as goal

pub returns : goal.returns
returns g c = λ at inner os waiting late begun h. record {
  is_text = h.is_text;
  is_file = h.is_file;
  keeps = c.in_ok-wrap.ensures inner os late h.keeps;
  ignored = h.ignored;
}

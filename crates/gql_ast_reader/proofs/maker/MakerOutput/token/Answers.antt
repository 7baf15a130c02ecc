use Rattle.gql_cst.specs.bridge.Open.{token}
use Rattle.gql_ast_reader.proofs.Comes.{token-is, waited, behind-waiting}
use Rattle.gql_ast_reader.proofs.maker.MakerOutput.token.Goals as goal

pub returns : goal.returns
returns g c = λ inner os waiting next h.
    let text = c.args.self.now.source.text.now in
    let file = c.args.self.now.source.file_id in record {
      is_text = h.is_text;
      is_file = h.is_file;
      keeps = behind-waiting text file _ inner os waiting (token c.args.range)
          (c.in_ok-take_token.ensures (token c.args.range) _ os (token-is text file c.args.range) (waited text file _ inner os waiting h.ignored h.keeps));
      ignored = tt {0};
    }

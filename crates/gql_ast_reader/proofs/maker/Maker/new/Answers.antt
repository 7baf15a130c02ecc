use Rattle.std.proofs.Common.{refl}
use Rattle.gql_ast_reader.proofs.Pool.{begins}
use Rattle.gql_ast_reader.proofs.maker.Maker.new.Goals as goal

pub returns : goal.returns
returns g c = record {
  is_text = c.requires.text;
  is_file = c.requires.file;
  keeps = begins _ _ c.in_ok-rows.rows _ _ _ _ c.in_ok-begin.ensures refl refl refl (c.in_ok-rows.ensures _ _);
  ignored = tt {0};
}

-- What a maker stands for: nodes that are open, and ignored tokens that wait.
use Rattle.std.specs.Prelude.{◌≡◌, List}
use Rattle.gql_source.specs.declared.file_id.FileId.{FileId}
use Rattle.gql_ast_base.specs.declared.source.Source.{Source}
use Rattle.gql_ast_base.specs.Forest.{Plain}
use Rattle.gql_ast_base.specs.Parts.{Text}
use Rattle.gql_ast_reader.specs.declared.open_rows.OpenRows.{OpenRows}
use Rattle.gql_cst.specs.bridge.Open.{Open}
use Rattle.gql_ast_reader.specs.bridge.Stand.{Keeps, AreIgnored}

-- The source is that of the text, and each open node is kept. The ignored tokens that wait are not: they stand for nothing.
pub record Stands (text : Text) (file : FileId) (source : Source) (rows : OpenRows) (os : List Open) (waiting : List Plain) : Type 0 where
  pub is_text : source.text.now ≡ text
  pub is_file : source.file_id ≡ file
  pub keeps : Keeps source.text.now source.file_id rows os
  pub ignored : AreIgnored waiting

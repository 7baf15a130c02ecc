-- What reading the definitions of a text gives.
use Rattle.std.specs.Prelude.{◌≡◌}
use Rattle.gql_source.specs.declared.file_id.FileId.{FileId}
use Rattle.gql_grammar.specs.declared.rule.Rule.TheVariants.{Document}
use Rattle.gql_cst.specs.declared.limits.Limits.{Limits}
use Rattle.gql_cst.specs.Parses.{Reports}
use Rattle.gql_cst.specs.Report.{Report}
use Rattle.gql_ast.specs.Documents.{definitions}
use Rattle.gql_ast_base.specs.Forest.{Plain}
use Rattle.gql_ast_base.specs.Parts.{Text}
use Rattle.gql_ast_reader.specs.declared.read.Read.{Read}

-- what is told where this tree was read
abbrev pub report_of : Read → Plain → Report
report_of read tree = record {
  tree = tree;
  error = read.error;
  recursion_reached = read.recursion_reached;
  tokens_reached = read.tokens_reached;
}

-- All that a parse tells of the text it tells of some tree, and the definitions are those of that tree.
pub record IsRead (text : Text) (file : FileId) (limits : Limits) (read : Read) : Type 0 where
  pub tree : Plain
  pub reports : Reports Document text limits (report_of read tree)
  pub means : definitions text file tree ≡ read.definitions

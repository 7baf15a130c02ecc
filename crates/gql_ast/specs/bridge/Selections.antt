-- What only private clauses and proofs cite, beside `Selections`.
use Rattle.std.specs.Prelude.{Option}
use Rattle.gql_source.specs.declared.file_id.FileId.{FileId}
use Rattle.gql_ast_base.specs.Forest.{Plain}
use Rattle.gql_ast.specs.declared.selection.Selection.{Selection}
use Rattle.gql_ast_base.specs.Parts.{Text}
use Rattle.gql_ast.specs.Selections.{choice_step, selected}

module _ (text : Text) (file : FileId) where
  abbrev pub choice_of : Plain → Option Selection
  choice_of tree = choice_step text file tree (selected text file tree.children)

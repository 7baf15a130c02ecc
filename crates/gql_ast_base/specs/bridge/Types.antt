-- What only private clauses and proofs cite, beside `Types`.
use Rattle.std.specs.Prelude.{Option}
use Rattle.gql_source.specs.declared.file_id.FileId.{FileId}
use Rattle.gql_ast_base.specs.Forest.{Plain}
use Rattle.gql_ast_base.specs.declared.type_ref.TypeRef.{TypeRef}
use Rattle.gql_ast_base.specs.Parts.{Text}
use Rattle.gql_ast_base.specs.Types.{form_step, forms, types}

module _ (text : Text) (file : FileId) where
  abbrev pub form_of : Plain → Option TypeRef
  form_of tree = form_step text file tree (types text file tree.children) (forms text file tree.children)

-- What only private clauses and proofs cite, beside `Values`.
use Rattle.std.specs.Prelude.{Option}
use Rattle.gql_source.specs.declared.file_id.FileId.{FileId}
use Rattle.gql_ast_base.specs.Forest.{Plain}
use Rattle.gql_ast_base.specs.Names.{Named}
use Rattle.gql_ast_base.specs.declared.value.Value.{Value}
use Rattle.gql_ast_base.specs.declared.value.ValueKind.{ValueKind}
use Rattle.gql_ast_base.specs.Parts.{Text}
use Rattle.gql_ast_base.specs.Values.{content_step, member_step, members, values}

module _ (text : Text) (file : FileId) where
  -- the content of a value that one tree is
  abbrev pub content_of : Plain → Option ValueKind
  content_of tree = content_step text file tree (values text file tree.children) (members text file tree.children)

  abbrev pub member_of : Plain → Option (Named × Value)
  member_of tree = member_step text file tree (values text file tree.children)

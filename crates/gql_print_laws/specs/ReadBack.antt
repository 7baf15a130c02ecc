-- What a text stands for as a constant value, by some tree of it: section 2.9 of GraphQL October 2021.
use Rattle.std.specs.Prelude.{◌≡◌, ℕ, List, Some}
use Rattle.gql_source.specs.declared.file_id.FileId.{FileId}
use Rattle.gql_grammar.specs.declared.rule.Rule.TheVariants.{ConstValue}
use Rattle.gql_cst.specs.Forest.{Forest}
use Rattle.gql_cst.specs.TreeOf.{IsTreeOf}
use Rattle.gql_ast_base.specs.Parts.{head}
use Rattle.gql_ast_base.specs.Values.{contents}
use Rattle.gql_ast_base.specs.declared.value.ValueKind.{ValueKind}
use Rattle.gql_print_laws.specs.Literal.{Literal, literal_of}

-- the text is a constant value, and stands for this one
pub record IsValueOf (text : List ℕ) (file : FileId) (meant : ValueKind) : Type 0 where
  pub children : Forest
  pub tree : IsTreeOf ConstValue text children
  pub means : head (contents text file children) ≡ Some meant

-- the text stands for the literal, the places aside that its names and values were read from
pub record StandsFor (text : List ℕ) (file : FileId) (literal : Literal) : Type 0 where
  pub read : ValueKind
  pub is : IsValueOf text file read
  pub same : literal_of read ≡ literal

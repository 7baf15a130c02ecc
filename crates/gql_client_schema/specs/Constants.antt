-- Texts of constant values: section 2.9 of GraphQL October 2021.
use Rattle.std.specs.Prelude.{◌≡◌, ℕ, List, Some, None}
use Rattle.gql_ast.specs.ValueText.{value_text}
use Rattle.gql_ast_base.specs.Values.{value_of}
use Rattle.gql_ast_base.specs.declared.value.Value.{Value}
use Rattle.gql_cst.specs.Forest.{Forest}
use Rattle.gql_cst.specs.TreeOf.{IsTreeOf}
use Rattle.gql_cst.specs.declared.limits.Limits.{Limits}
use Rattle.gql_grammar.specs.declared.rule.Rule.TheVariants.{ConstValue}
use Rattle.gql_grammar.specs.declared.syntax_kind.SyntaxKind.TheVariants as kind
use Rattle.gql_parser.specs.Readings.{IsSentenceWithin}
use Rattle.gql_source.specs.declared.file_id.FileId.{FileId}

-- nested at most 500 deep, with any number of tokens
abbrev pub limits : Limits
limits = record { recursion = 500; tokens = None }

-- the value stands in no file
abbrev pub no_file : FileId
no_file = record { number = 2 }

-- the text is a constant value, in which no variable stands, and this is the value
pub record IsConstantOf (text : List ℕ) (value : Value) : Type 0 where
  pub sentence : IsSentenceWithin limits ConstValue text
  pub children : Forest
  pub tree : IsTreeOf ConstValue text children
  pub means : value_of text no_file (record { kind = kind.Value; start = 0; end = 0; children = children }) ≡ Some value

-- the text is a constant value, and this is how that value is printed
pub record IsConstant (text printed : List ℕ) : Type 0 where
  pub value : Value
  pub means : IsConstantOf text value
  pub is : printed ≡ value_text value

-- the text is none
abbrev pub IsNoConstant : List ℕ → Type 0
IsNoConstant text = (printed : List ℕ) → IsConstant text printed → ⊥

-- The tokens at the leaves of trees, and how they lie in a text.
use Rattle.std.specs.Prelude.{◌≡◌, ℕ, ◌-◌, ◌<◌, List, [], ◌∷◌, ◌++◌, drop}
use Rattle.std.specs.Str.{IsCharBoundary}
use Rattle.gql_lexer.specs.Lexical.{IsToken}
use Rattle.gql_lexer.specs.declared.token.TokenKind.{TokenKind}
use Rattle.gql_lexer.specs.declared.token.TokenKind.TheVariants as token
use Rattle.gql_grammar.specs.declared.syntax_kind.SyntaxKind.{SyntaxKind}
use Rattle.gql_grammar.specs.declared.syntax_kind.SyntaxKind.TheVariants as kind
use Rattle.gql_cst.specs.Forest.{Forest, nothing, tree_then}

-- what a tree of a kind is: a token, a token that the grammar ignores, or a node
pub data Part : Type 0 where
  word : Part
  ignored : Part
  node : Part

abbrev pub part_of : SyntaxKind → Part
part_of kind.Token = word
part_of kind.Ignored = ignored
part_of _ = node

-- a token in a tree
pub record Leaf : Type 0 where
  pub part : Part
  pub start : ℕ
  pub end : ℕ

abbrev pub own_leaf : Part → ℕ → ℕ → List Leaf
own_leaf word start end = record { part = word; start = start; end = end } ∷ []
own_leaf ignored start end = record { part = ignored; start = start; end = end } ∷ []
own_leaf node start end = []

-- the tokens of a row of trees, from left to right
abbrev pub leaves : Forest → List Leaf
leaves nothing = []
leaves (tree_then kind start end children behind) = own_leaf (part_of kind) start end ++ leaves children ++ leaves behind

abbrev pub part_of_token : TokenKind → Part
part_of_token token.Ignored = ignored
part_of_token token.Punctuator = word
part_of_token token.Name = word
part_of_token token.IntValue = word
part_of_token token.FloatValue = word
part_of_token token.StringValue = word

-- the leaf is a token of the text, which begins at the place
pub record IsLeaf (text : List ℕ) (place : ℕ) (leaf : Leaf) : Type 0 where
  pub starts : leaf.start ≡ place
  pub further : leaf.start < leaf.end
  pub kind : TokenKind
  pub part : part_of_token kind ≡ leaf.part
  pub token : IsToken kind (drop leaf.start text) (leaf.end - leaf.start)
  pub starts_character : IsCharBoundary text leaf.start
  pub ends_character : IsCharBoundary text leaf.end

-- the tokens follow each other in the text from the one place to the other
abbrev pub Tiles : List ℕ → ℕ → List Leaf → ℕ → Type 0
Tiles text from [] to = from ≡ to
Tiles text from (leaf ∷ leaves) to = IsLeaf text from leaf × Tiles text leaf.end leaves to

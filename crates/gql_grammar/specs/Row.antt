-- Syntax trees, ignored tokens left out.
use Rattle.std.specs.Prelude.{ℕ, ◌+◌, max, List, [], ◌∷◌, ◌++◌}
use Rattle.gql_grammar.specs.declared.word.Word.{Word}
use Rattle.gql_grammar.specs.declared.syntax_kind.SyntaxKind.{SyntaxKind}
use Rattle.gql_grammar.specs.declared.syntax_kind.SyntaxKind.TheVariants as kind

-- A row of trees. Each is a leaf or a node, and the trees behind it come last
pub data Row : Type 0 where
  nothing : Row
  leaf : Word → Row → Row
  node : SyntaxKind → Row → Row → Row

-- the one row, and behind it the other
abbrev pub joined : Row → Row → Row
joined nothing y = y
joined (leaf w x) y = leaf w (joined x y)
joined (node k inner x) y = node k inner (joined x y)

-- the row with one more leaf, or one more node, at its end
abbrev pub with_leaf : Row → Word → Row
with_leaf x w = joined x (leaf w nothing)

abbrev pub with_node : Row → SyntaxKind → Row → Row
with_node x k inner = joined x (node k inner nothing)

-- the words of the leaves
abbrev pub leaves : Row → List Word
leaves nothing = []
leaves (leaf w x) = w ∷ leaves x
leaves (node k inner x) = leaves inner ++ leaves x

-- A selection set, an object value, a list value and a list type open a level of nesting
abbrev pub level : SyntaxKind → ℕ
level kind.SelectionSet = 1
level kind.ObjectValue = 1
level kind.ListValue = 1
level kind.ListType = 1
level _ = 0

-- the greatest number of levels around a leaf
abbrev pub nesting : Row → ℕ
nesting nothing = 0
nesting (leaf w x) = nesting x
nesting (node k inner x) = max (level k + nesting inner) (nesting x)

-- Trees that have the tokens of a text, for a row that is known.
use Rattle.std.proofs.Common.{List, [], ◌∷◌}
use Rattle.gql_grammar.specs.declared.syntax_kind.SyntaxKind.{SyntaxKind}
use Rattle.gql_grammar.specs.declared.syntax_kind.SyntaxKind.TheVariants as kind
use Rattle.gql_grammar.specs.Row as row
use Rattle.gql_grammar.specs.Row.{Row}
use Rattle.gql_cst.specs.Forest.{Forest, nothing, tree_then}
use Rattle.gql_cst.specs.Leaves.{Part, word, ignored, node, Leaf}

-- trees, and the tokens that are left behind them
abbrev pub Planted : Type 0
Planted = Forest × List Leaf

-- the ignored tokens at the front, and the others
abbrev pub ignored_before : List Leaf → List Leaf → Part → Leaf → List Leaf × List Leaf → List Leaf × List Leaf
ignored_before ls all ignored l rest = (l ∷ rest.0, rest.1)
ignored_before ls all word l rest = ([], all)
ignored_before ls all node l rest = ([], all)

abbrev pub parted : List Leaf → List Leaf × List Leaf
parted [] = ([], [])
parted (l ∷ ls) = ignored_before ls (l ∷ ls) l.part l (parted ls)

abbrev pub ignored_then : List Leaf → Forest → Forest
ignored_then [] behind = behind
ignored_then (l ∷ ls) behind = tree_then kind.Ignored l.start l.end nothing (ignored_then ls behind)

-- a word and the ignored tokens behind it
abbrev pub word_then : Leaf → List Leaf → Planted → Planted
word_then l skipped rest = (tree_then kind.Token l.start l.end nothing (ignored_then skipped rest.0), rest.1)

abbrev pub node_before : SyntaxKind → Forest → Planted → Planted
node_before k inner rest = (tree_then k 0 0 inner rest.0, rest.1)

abbrev pub node_then : SyntaxKind → (List Leaf → Planted) → Planted → Planted
node_then k onward inner = node_before k inner.0 (onward inner.1)

abbrev pub planted : Row → List Leaf → Planted
planted row.nothing ls = (nothing, ls)
planted (row.leaf w x) [] = (nothing, [])
planted (row.leaf w x) (l ∷ ls) = word_then l (parted ls).0 (planted x (parted ls).1)
planted (row.node k inner x) ls = node_then k (planted x) (planted inner ls)

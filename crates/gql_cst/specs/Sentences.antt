-- The words and the row that trees stand for, ignored tokens left out, and where the reading of a sentence stands.
use Rattle.std.specs.Prelude.{ℕ, List, [], ◌∷◌, ◌++◌, slice_range, Option, Some, None}
use Rattle.gql_grammar.specs.declared.word.Word.{Word}
use Rattle.gql_grammar.specs.declared.rule.Rule.{Rule}
use Rattle.gql_grammar.specs.declared.syntax_kind.SyntaxKind.{SyntaxKind}
use Rattle.gql_grammar.specs.declared.syntax_kind.SyntaxKind.TheVariants.{Document}
use Rattle.gql_grammar.specs.Row as row
use Rattle.gql_grammar.specs.Row.{Row}
use Rattle.gql_grammar.specs.Rule.{kind_of}
use Rattle.gql_cst.specs.Forest.{Forest, nothing, tree_then}
use Rattle.gql_cst.specs.Leaves.{Part, word, ignored, node, part_of, Leaf}
use Rattle.gql_cst.specs.Words.{word_of}

abbrev pub own_word : Part → Word → List Word
own_word word w = w ∷ []
own_word ignored w = []
own_word node w = []

-- the words of tokens
abbrev pub words : List ℕ → List Leaf → List Word
words text [] = []
words text (leaf ∷ leaves) = own_word leaf.part (word_of (slice_range text leaf.start leaf.end)) ++ words text leaves

abbrev pub row_then : Part → SyntaxKind → Word → Row → Row → Row
row_then word kind w children behind = row.leaf w behind
row_then ignored kind w children behind = behind
row_then node kind w children behind = row.node kind children behind

-- the row of a row of trees
abbrev pub shown : List ℕ → Forest → Row
shown text nothing = row.nothing
shown text (tree_then kind start end children behind) =
    row_then (part_of kind) kind (word_of (slice_range text start end)) (shown text children) (shown text behind)

-- the kind of the node of a whole text
abbrev pub kind_or : Option SyntaxKind → SyntaxKind
kind_or (Some kind) = kind
kind_or None = Document

abbrev pub root_kind : Rule → SyntaxKind
root_kind start = kind_or (kind_of start)

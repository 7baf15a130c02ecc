-- Trees with the texts of their tokens, before these stand anywhere.
use Rattle.std.specs.Prelude.{◌≡◌, ℕ, ◌+◌, ◌<◌, List, [], ◌∷◌, ◌++◌, length, slice_index}
use Rattle.gql_lexer.specs.Lexical.{IsToken}
use Rattle.gql_lexer.specs.declared.token.TokenKind.{TokenKind}
use Rattle.gql_grammar.specs.declared.syntax_kind.SyntaxKind.{SyntaxKind}
use Rattle.gql_grammar.specs.declared.syntax_kind.SyntaxKind.TheVariants as kind
use Rattle.gql_grammar.specs.declared.word.Word.{Word}
use Rattle.gql_grammar.specs.Row as row
use Rattle.gql_grammar.specs.Row.{Row}
use Rattle.gql_cst.specs.Forest.{Forest, nothing, tree_then}
use Rattle.gql_cst.specs.Leaves.{Part, word, ignored, node, part_of, part_of_token}
use Rattle.gql_cst.specs.Words.{word_of}

abbrev pub Text : Type 0
Text = List ℕ

pub data Said : Type 0 where
  over : Said
  -- a token, or one that the grammar ignores, and what comes behind it
  token : Text → Said → Said
  space : Text → Said → Said
  -- a node, and what comes behind it
  under : SyntaxKind → Said → Said → Said

abbrev pub text_of : Said → Text
text_of over = []
text_of (token t s) = t ++ text_of s
text_of (space t s) = t ++ text_of s
text_of (under k i s) = text_of i ++ text_of s

-- the trees, from a place on
abbrev pub forest_at : ℕ → Said → Forest
forest_at n over = nothing
forest_at n (token t s) = tree_then kind.Token n (n + length t) nothing (forest_at (n + length t) s)
forest_at n (space t s) = tree_then kind.Ignored n (n + length t) nothing (forest_at (n + length t) s)
forest_at n (under k i s) = tree_then k 0 0 (forest_at n i) (forest_at (n + length (text_of i)) s)

abbrev pub row_of : Said → Row
row_of over = row.nothing
row_of (token t s) = row.leaf (word_of t) (row_of s)
row_of (space t s) = row_of s
row_of (under k i s) = row.node k (row_of i) (row_of s)

abbrev pub words_of : Said → List Word
words_of over = []
words_of (token t s) = word_of t ∷ words_of s
words_of (space t s) = words_of s
words_of (under k i s) = words_of i ++ words_of s

-- the text is a token where this comes behind it, and characters begin at both its ends
pub record IsPiece (part : Part) (t rest : Text) : Type 0 where
  pub kind : TokenKind
  pub is : part_of_token kind ≡ part
  pub token : IsToken kind (t ++ rest) (length t)
  pub some : 0 < length t
  pub low : slice_index (t ++ rest) 0 < 128
  pub next : slice_index rest 0 < 128

-- each token is read as it is said
abbrev pub Lexes : Said → Text → Type 0
Lexes over rest = Unit {0}
Lexes (token t s) rest = IsPiece word t (text_of s ++ rest) × Lexes s rest
Lexes (space t s) rest = IsPiece ignored t (text_of s ++ rest) × Lexes s rest
Lexes (under k i s) rest = (part_of k ≡ node) × (Lexes i (text_of s ++ rest) × Lexes s rest)

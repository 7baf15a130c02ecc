-- What is left of trees once ignored tokens and the places of inner nodes are left out.
use Rattle.std.specs.Prelude.{◌≡◌, ℕ, List, [], ◌∷◌, ◌++◌}
use Rattle.gql_grammar.specs.declared.syntax_kind.SyntaxKind.{SyntaxKind}
use Rattle.gql_cst.specs.Forest.{Forest, nothing, tree_then}
use Rattle.gql_cst.specs.Leaves.{Part, word, ignored, node, part_of, Leaf, leaves}

abbrev pub bare_then : Part → SyntaxKind → ℕ → ℕ → Forest → Forest → Forest
bare_then word kind start end children behind = tree_then kind start end nothing behind
bare_then ignored kind start end children behind = behind
bare_then node kind start end children behind = tree_then kind 0 0 children behind

-- a token that is a word keeps its place, and a node its kind
abbrev pub bare : Forest → Forest
bare nothing = nothing
bare (tree_then kind start end children behind) = bare_then (part_of kind) kind start end (bare children) (bare behind)

abbrev pub own_spoken : Part → Leaf → List Leaf
own_spoken word leaf = leaf ∷ []
own_spoken ignored leaf = []
own_spoken node leaf = []

-- the tokens that the grammar does not ignore
abbrev pub spoken : List Leaf → List Leaf
spoken [] = []
spoken (leaf ∷ leaves) = own_spoken leaf.part leaf ++ spoken leaves

-- what holds of a tree where `inner` holds of the trees below it: below a token stands no word
abbrev pub Ends : Part → Forest → Type 0 → Type 0
Ends word children inner = spoken (leaves children) ≡ []
Ends ignored children inner = spoken (leaves children) ≡ []
Ends node children inner = inner

-- no word stands below a token
abbrev pub TokensEnd : Forest → Type 0
TokensEnd nothing = Unit {0}
TokensEnd (tree_then kind start end children behind) = Ends (part_of kind) children (TokensEnd children) × TokensEnd behind

-- Which bytes of a text trees reach over.
use Rattle.std.specs.Prelude.{◌≡◌, ℕ, List}
use Rattle.gql_cst.specs.Forest.{Forest, nothing, tree_then, Plain, row_of}
use Rattle.gql_cst.specs.Leaves.{Part, word, ignored, node, part_of}

-- where the first tree of a row starts. Where there is none: 0
abbrev pub first_start : Forest → ℕ
first_start nothing = 0
first_start (tree_then kind start end children behind) = start

-- where the last tree of a row ends. Where there is none: the number
abbrev pub last_end_or : ℕ → Forest → ℕ
last_end_or n nothing = n
last_end_or n (tree_then kind start end children behind) = last_end_or end behind

-- A token has no children. A node reaches from the start of its first child to the end of its last, those that the grammar
-- ignores included, and one without children is empty and stands at 0.
abbrev pub Spans : Part → ℕ → ℕ → Forest → Type 0
Spans word start end children = children ≡ nothing
Spans ignored start end children = children ≡ nothing
Spans node start end children = (start ≡ first_start children) × (end ≡ last_end_or 0 children)

-- so does each tree of a row, at any depth
abbrev pub AllSpan : Forest → Type 0
AllSpan nothing = Unit {0}
AllSpan (tree_then kind start end children behind) = Spans (part_of kind) start end children × (AllSpan children × AllSpan behind)

abbrev pub AllSpanIn : List Plain → Type 0
AllSpanIn trees = AllSpan (row_of trees)

-- How deep selection sets, object values, list values and list types are nested.
use Rattle.std.specs.Prelude.{ℕ, ◌+◌, max}
use Rattle.gql_cst.specs.Leaves.{Part, word, ignored, node, part_of}
use Rattle.gql_grammar.specs.Row.{level}
use Rattle.gql_cst.specs.Forest.{Forest, nothing, tree_then}

-- a token opens no level
abbrev pub within_node : Part → ℕ → ℕ
within_node node levels = levels
within_node word levels = 0
within_node ignored levels = 0

-- the greatest number of such nodes around a place
abbrev pub nesting : Forest → ℕ
nesting nothing = 0
nesting (tree_then kind start end children behind) = max (within_node (part_of kind) (level kind + nesting children)) (nesting behind)

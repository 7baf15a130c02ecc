-- What holds of each node of a row of trees, its tokens aside.
use Rattle.gql_cst.specs.Forest.{Forest, Plain, nothing, tree_then}
use Rattle.gql_cst.specs.Leaves.{Part, word, ignored, node, part_of}

abbrev pub AtNode : Part → Type 0 → Type 0
AtNode node A = A
AtNode word A = Unit {0}
AtNode ignored A = Unit {0}

abbrev pub EachNode : (Plain → Type 0) → Forest → Type 0
EachNode P nothing = Unit {0}
EachNode P (tree_then kind start end children rest) =
    AtNode (part_of kind) (P (record { kind = kind; start = start; end = end; children = children })) × EachNode P rest

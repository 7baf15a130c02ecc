-- A JSON value as a plain tree (RFC 8259, section 3), for definitions by recursion.
use Rattle.std.specs.Prelude.{ℕ, ℤ, Bool, List, [], ◌∷◌}
use Rattle.jb_tree.specs.declared.value.Value.{Value, fold-Value}
use Rattle.jb_tree.specs.declared.value.Value.TheOpen.{Value-F}

mutual
  pub data Tree : Type 0 where
    null : Tree
    boolean : Bool → Tree
    number : ℤ → Tree
    text : List ℕ → Tree
    array : Trees → Tree
    object : Members → Tree

  pub data Trees : Type 0 where
    no_trees : Trees
    tree_then : Tree → Trees → Trees

  pub data Members : Type 0 where
    no_members : Members
    member_then : List ℕ → Tree → Members → Members

abbrev pub trees_of : List Tree → Trees
trees_of [] = no_trees
trees_of (tree ∷ trees) = tree_then tree (trees_of trees)

abbrev pub members_of : List (List ℕ × Tree) → Members
members_of [] = no_members
members_of (member ∷ members) = member_then member.0 member.1 (members_of members)

-- one level, with the tree of each value inside in its place
abbrev pub tree_step : Value-F Tree → Tree
tree_step Value-F.Null = null
tree_step (Value-F.Bool value) = boolean value
tree_step (Value-F.Number value) = number value
tree_step (Value-F.String bytes) = text bytes
tree_step (Value-F.Array trees) = array (trees_of trees)
tree_step (Value-F.Object members) = object (members_of members)

abbrev pub tree : Value → Tree
tree = fold-Value Tree tree_step

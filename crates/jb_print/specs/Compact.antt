-- The compact JSON text of a value (RFC 8259): no white space anywhere.
use Rattle.std.specs.Prelude.{ℕ, true, false, List, [], ◌∷◌, ◌++◌, codes}
use Rattle.std.specs.List.{join_by}
use Rattle.std.specs.Fmt.{signed_decimal}
use Rattle.jb_tree.specs.declared.value.Value.{Value}
use Rattle.jb_tree.specs.Tree.{Tree, Trees, Members, null, boolean, number, text, array, object, no_trees, tree_then, no_members, member_then, tree}
use Rattle.jb_print.specs.Quoted.{quoted}

abbrev pub comma_separated : List (List ℕ) → List ℕ
comma_separated = join_by (λ piece. piece) (codes ",")

abbrev mutual
  pub compact_tree : Tree → List ℕ
  compact_tree null = codes "null"
  compact_tree (boolean true) = codes "true"
  compact_tree (boolean false) = codes "false"
  compact_tree (number value) = signed_decimal value
  compact_tree (text bytes) = quoted bytes
  compact_tree (array items) = codes "[" ++ comma_separated (compact_items items) ++ codes "]"
  compact_tree (object members) = codes "{" ++ comma_separated (compact_members members) ++ codes "}"

  pub compact_items : Trees → List (List ℕ)
  compact_items no_trees = []
  compact_items (tree_then item items) = compact_tree item ∷ compact_items items

  pub compact_members : Members → List (List ℕ)
  compact_members no_members = []
  compact_members (member_then key value members) = (quoted key ++ codes ":" ++ compact_tree value) ∷ compact_members members

abbrev pub compact : Value → List ℕ
compact value = compact_tree (tree value)

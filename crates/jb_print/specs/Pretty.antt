-- The JSON text of a value with a line for each item and pair, indented by two spaces for each level.
use Rattle.std.specs.Prelude.{ℕ, List, [], ◌∷◌, ◌++◌, codes}
use Rattle.jb_tree.specs.declared.value.Value.{Value}
use Rattle.jb_tree.specs.Tree.{Tree, Trees, Members, array, object, no_trees, tree_then, no_members, member_then, tree}
use Rattle.jb_print.specs.Quoted.{quoted}
use Rattle.jb_print.specs.Compact.{comma_separated, compact_tree}

-- the start of a line one level deeper
abbrev pub deeper : List ℕ → List ℕ
deeper line = line ++ codes "  "

abbrev mutual
  -- the text of a tree, where `line` starts a line at its level: a line feed and the indentation
  pub pretty_tree : List ℕ → Tree → List ℕ
  pretty_tree line (array (tree_then item items)) = codes "[" ++ comma_separated (pretty_items (deeper line) (tree_then item items)) ++ line ++ codes "]"
  pretty_tree line (object (member_then key value members)) = codes "{"
      ++ comma_separated (pretty_members (deeper line) (member_then key value members)) ++ line ++ codes "}"
  pretty_tree line leaf = compact_tree leaf

  pub pretty_items : List ℕ → Trees → List (List ℕ)
  pretty_items line no_trees = []
  pretty_items line (tree_then item items) = (line ++ pretty_tree line item) ∷ pretty_items line items

  pub pretty_members : List ℕ → Members → List (List ℕ)
  pretty_members line no_members = []
  pretty_members line (member_then key value members) = (line ++ quoted key ++ codes ": " ++ pretty_tree line value) ∷ pretty_members line members

-- where `line` starts a line at the value's level
abbrev pub pretty_at : List ℕ → Value → List ℕ
pretty_at line value = pretty_tree line (tree value)

abbrev pub pretty : Value → List ℕ
pretty = pretty_at (codes "\n")

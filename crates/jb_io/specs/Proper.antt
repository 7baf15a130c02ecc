-- The values that JSON texts can hold (RFC 8259), and how deep their texts nest.
use Rattle.std.specs.Prelude.{ℕ, suc, max, List, [], ◌∷◌, ⊤}
use Rattle.std.specs.List.{IsDistinct}
use Rattle.std.specs.Str.{IsUtf8, bytes_eq}
use Rattle.jb_tree.specs.Tree.{Tree, Trees, Members, null, boolean, number, text, array, object, no_trees, tree_then, no_members, member_then}
use Rattle.jb_read.specs.Spelling.{IsWhole}

abbrev pub keys : Members → List (List ℕ)
keys no_members = []
keys (member_then key item members) = key ∷ keys members

-- each text is UTF-8, each number a whole one from -2^63 to 2^64-1, and the keys of each object are distinct
abbrev mutual
  pub IsProper : Tree → Type 0
  IsProper null = ⊤
  IsProper (boolean truth) = ⊤
  IsProper (number z) = IsWhole z
  IsProper (text bytes) = IsUtf8 bytes
  IsProper (array items) = AreProperItems items
  IsProper (object members) = IsDistinct bytes_eq (keys members) × AreProperMembers members

  pub AreProperItems : Trees → Type 0
  AreProperItems no_trees = ⊤
  AreProperItems (tree_then item items) = IsProper item × AreProperItems items

  pub AreProperMembers : Members → Type 0
  AreProperMembers no_members = ⊤
  AreProperMembers (member_then key item members) = IsUtf8 key × IsProper item × AreProperMembers members

-- how many arrays and objects stand in one another, the outermost included
abbrev mutual
  pub depth : Tree → ℕ
  depth null = 0
  depth (boolean truth) = 0
  depth (number z) = 0
  depth (text bytes) = 0
  depth (array items) = suc (depth_of_items items)
  depth (object members) = suc (depth_of_members members)

  pub depth_of_items : Trees → ℕ
  depth_of_items no_trees = 0
  depth_of_items (tree_then item items) = max (depth item) (depth_of_items items)

  pub depth_of_members : Members → ℕ
  depth_of_members no_members = 0
  depth_of_members (member_then key item members) = max (depth item) (depth_of_members members)

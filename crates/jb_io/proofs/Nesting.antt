-- How deep a list and an object nest, one item and one member after another.
use Rattle.std.proofs.Common.{◌≡◌, ◌↔◌, ℕ, ◌≤◌, List, [], ◌∷◌, refl, ap, subst, sym, arith}
use Rattle.std.specs.List.{IsDistinct}
use Rattle.std.specs.Map.{keys_of}
use Rattle.std.specs.Str.{IsUtf8, bytes_eq}
use Rattle.jb_tree.specs.Tree.{Tree, Trees, Members, member_then}
use Rattle.jb_tree.specs.declared.value.Value.{Value}
use Rattle.jb_io.specs.Proper.{IsProper, AreProperItems, AreProperMembers, depth, depth_of_items, depth_of_members, keys}
use Rattle.jb_io.specs.bridge.Proper.{members_tree}

-- what is left of a list nests within so many levels just where all of it does, and all of it is proper where what is left is
abbrev pub ItemsLeft : ℕ → Trees → Trees → Type 0
ItemsLeft levels left all = ((depth_of_items left ≤ levels) ↔ (depth_of_items all ≤ levels)) × (AreProperItems left → AreProperItems all)

abbrev pub MembersLeft : ℕ → Members → Members → Type 0
MembersLeft levels left all = ((depth_of_members left ≤ levels) ↔ (depth_of_members all ≤ levels)) × (AreProperMembers left → AreProperMembers all)

module _ (levels : ℕ) (t : Tree) where
  pub member_passed : (key : List ℕ) (left all : Members) → depth t ≤ levels → IsUtf8 key → IsProper t → MembersLeft levels (member_then key t left) all → MembersLeft levels left all
  member_passed key left all low utf8 proper was = ((λ h. was.0.0 (omega (arith, h, low)), λ h. omega (arith, was.0.1 h)), λ h. was.1 (utf8, proper, h))

  pub member_too_deep : (key : List ℕ) (left all : Members) → (depth t ≤ levels → ⊥) → MembersLeft levels (member_then key t left) all → depth_of_members all ≤ levels → ⊥
  member_too_deep key left all deep was h = deep (omega (arith, was.0.1 h))

keys_tree : (members : List (List ℕ × Value)) → keys (members_tree members) ≡ keys_of members
keys_tree [] = refl
keys_tree (member ∷ members) = ap (λ l. member.0 ∷ l) (keys_tree members)

pub keys_distinct : (members : List (List ℕ × Value)) → IsDistinct bytes_eq (keys_of members) → IsDistinct bytes_eq (keys (members_tree members))
keys_distinct members = subst (IsDistinct bytes_eq) (sym (keys_tree members))

-- The tree of a list and of an object, and the pair at a place of an object.
use Rattle.std.proofs.Common.{◌≡◌, ℕ, zero, suc, ◌+◌, List, [], ◌∷◌, map, drop, Some, ap, ap₂, add-one, rules}
use Rattle.std.specs.List.{slice_get}
use Rattle.std.specs.Map.{keys_of, values_of}
use Rattle.jb_tree.specs.declared.value.Value.{Value, Array, Object, the_lemmas}
use Rattle.jb_tree.specs.Tree.{Members, array, object, trees_of, members_of, tree}

abbrev pub Member : Type 0
Member = List ℕ × Value

abbrev pub members_tree : List Member → Members
members_tree members = members_of (map (λ member. (member.0, tree member.1)) members)

pub tree-Array : (items : List Value) → tree (Array items) ≡ array (trees_of (map tree items))
tree-Array items = search (rules, the_lemmas)

pub tree-Object : (members : List Member) → tree (Object members) ≡ object (members_tree members)
tree-Object members = search (rules, the_lemmas)

member_at : (members : List Member) (index : ℕ) (key : List ℕ) (value : Value) → slice_get (keys_of members) index ≡ Some key → slice_get (values_of members) index ≡ Some value → drop index members ≡ (key, value) ∷ drop (suc index) members
member_at [] index key value k v = cc
member_at (member ∷ members) zero key value k v = ap (λ pair. pair ∷ members) (ap₂ (λ x y. (x, y)) (cc) (cc))
member_at (member ∷ members) (suc index) key value k v = member_at members index key value k v

-- what is left of an object begins with the pair of this key and value
pub drop-member : (members : List Member) (index : ℕ) (key : List ℕ) (value : Value) → slice_get (keys_of members) index ≡ Some key → slice_get (values_of members) index ≡ Some value → drop index members ≡ (key, value) ∷ drop (index + 1) members
drop-member members index key value k v = rw add-one (member_at members index key value k v)

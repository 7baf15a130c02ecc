-- A value is what its own tree settles to, where the keys of each object are distinct.
use Rattle.std.proofs.Common.{◌≡◌, ℕ, ℤ, Bool, List, [], ◌∷◌, ◌++◌, map, refl, sym, ap, ap₂, subst, ◌∙◌, append_assoc, rules}
use Rattle.std.specs.List.{IsDistinct}
use Rattle.std.specs.Map.{keys_of}
use Rattle.std.specs.Str.{bytes_eq}
use Rattle.std.specs.Cmp.Lexicographic.{nat_list_eq_equiv}
use Rattle.std.proofs.lemmas.List.{append-nil}
use Rattle.indexmap.specs.IndexMap.{insert_entry}
use Rattle.indexmap.proofs.MapLemmas.{absent_before, absent_from_lookup, insert_entry-absent}
use Rattle.jb_tree.specs.declared.value.Value.{Value, the_lemmas, ind-Value, roll-Value, map-Value}
use Rattle.jb_tree.specs.declared.value.Value.TheVariants as value
use Rattle.jb_tree.specs.declared.value.Value.TheVariants.{rolls-Null, rolls-Bool, rolls-Number, rolls-String, rolls-Array, rolls-Object}
use Rattle.jb_tree.specs.declared.value.Value.TheOpen.{Value-F}
use Rattle.jb_tree.specs.declared.value.Value.TheOpen as layer
use Rattle.jb_tree.specs.Tree.{null, boolean, number, text, trees_of, tree}
use Rattle.jb_print.proofs.Trees.{Member, members_tree, tree-Array, tree-Object}
use Rattle.jb_read.specs.Spelling.{settled, settled_items, settled_members}
use Rattle.jb_io.specs.Proper.{keys, IsProper, AreProperItems, AreProperMembers}

abbrev Settles : Value → Type 0
Settles v = IsProper (tree v) → settled (tree v) ≡ v

-- a value with what is known of it
abbrev Known : Type 0
Known = (v : Value) × Settles v

abbrev value_of : Known → Value
value_of e = e.0

items_settle : (items : List Known) → AreProperItems (trees_of (map tree (map value_of items))) → settled_items (trees_of (map tree (map value_of items))) ≡ map value_of items
items_settle [] p = refl
items_settle (item ∷ items) p = ap₂ (λ (v : Value) (vs : List Value). v ∷ vs) (item.1 p.0) (items_settle items p.1)

keys-members_tree : (members : List Member) → keys (members_tree members) ≡ keys_of members
keys-members_tree [] = refl
keys-members_tree (member ∷ members) = ap (λ (l : List (List ℕ)). member.0 ∷ l) (keys-members_tree members)

abbrev member_of : List ℕ × Known → Member
member_of member = (member.0, member.1.0)

-- the members that are left join those that are done, since their keys are new
members_settle : (done : List Member) (members : List (List ℕ × Known)) → IsDistinct bytes_eq (keys_of (done ++ map member_of members)) → AreProperMembers (members_tree (map member_of members))
    → settled_members done (members_tree (map member_of members)) ≡ done ++ map member_of members
members_settle done [] distinct p = sym (append-nil done)
members_settle done (member ∷ members) distinct p =
    let new = absent_from_lookup (bytes_eq member.0) done (absent_before nat_list_eq_equiv done (map member_of members) (member_of member) distinct) in
    let inserted : insert_entry bytes_eq done member.0 (settled (tree member.1.0)) ≡ done ++ member_of member ∷ [] =
    ap (insert_entry bytes_eq done member.0) (member.1.1 p.1) ∙ insert_entry-absent bytes_eq member.0 member.1.0 done new in
    let joined : (done ++ member_of member ∷ []) ++ map member_of members ≡ done ++ map member_of (member ∷ members) = append_assoc done (member_of member ∷ []) (map member_of members) in
    ap (λ (l : List Member). settled_members l (members_tree (map member_of members))) inserted
    ∙ members_settle (done ++ member_of member ∷ []) members (subst (λ (l : List Member). IsDistinct bytes_eq (keys_of l)) (sym joined) distinct) p.2
    ∙ joined

tree-Null : tree value.Null ≡ null
tree-Null = search (rules, the_lemmas)

tree-Bool : (truth : Bool) → tree (value.Bool truth) ≡ boolean truth
tree-Bool truth = search (rules, the_lemmas)

tree-Number : (z : ℤ) → tree (value.Number z) ≡ number z
tree-Number z = search (rules, the_lemmas)

tree-String : (bytes : List ℕ) → tree (value.String bytes) ≡ text bytes
tree-String bytes = search (rules, the_lemmas)

-- each variant, where what stands inside is known
array_settles : (items : List Known) → Settles (value.Array (map value_of items))
array_settles items p =
    let is = tree-Array (map value_of items) in
    ap settled is ∙ ap (λ (vs : List Value). value.Array vs) (items_settle items (subst IsProper is p))

object_settles : (members : List (List ℕ × Known)) → Settles (value.Object (map member_of members))
object_settles members p =
    let is = tree-Object (map member_of members) in
    let proper = subst IsProper is p in
    let distinct : IsDistinct bytes_eq (keys_of (map member_of members)) = subst (IsDistinct bytes_eq) (keys-members_tree (map member_of members)) proper.0 in
    ap settled is ∙ ap (λ (ms : List Member). value.Object ms) (members_settle [] members distinct proper.1)

level_settles : (level : Value-F Known) → Settles (roll-Value (map-Value Known Value value_of level))
level_settles layer.Null = subst Settles (sym rolls-Null) (λ p. ap settled tree-Null)
level_settles (layer.Bool truth) = subst Settles (sym (rolls-Bool truth)) (λ p. ap settled (tree-Bool truth))
level_settles (layer.Number z) = subst Settles (sym (rolls-Number z)) (λ p. ap settled (tree-Number z))
level_settles (layer.String bytes) = subst Settles (sym (rolls-String bytes)) (λ p. ap settled (tree-String bytes))
level_settles (layer.Array items) = subst Settles (sym (rolls-Array (map value_of items))) (array_settles items)
level_settles (layer.Object members) = subst Settles (sym (rolls-Object (map member_of members))) (object_settles members)

pub settles : (v : Value) → IsProper (tree v) → settled (tree v) ≡ v
settles = ind-Value Settles (λ level known is. subst (λ (l : Value-F Value). Settles (roll-Value l)) is (level_settles known))

-- A list or an object is not null.
use Rattle.std.proofs.Common.{rules, ◌≡◌, ℕ, Bool, true, false, List, Option, Some, None, is_some, refl, sym, ap, ◌∙◌}
use Rattle.jb_tree.specs.declared.value.Value.{Value, the_lemmas}
use Rattle.jb_tree.specs.declared.value.Value.TheVariants as json
use Rattle.jb_tree.specs.Value.{array_items, object_members, is_null}
use Rattle.gql_collect.specs.declared.group.Group.{Group}
use Rattle.gql_resolvers.specs.Execute.{Member}
use Rattle.gql_checker_laws.proofs.Parts.{null_same}
use Rattle.gql_checker_laws.specs.Walk.{of_length}
use Rattle.gql_checker_laws.specs.Places.{HasPlain}
use Rattle.gql_checker_laws.specs.Reported.{items_of, members_of, with_keys}

null-array : array_items json.Null ≡ None
null-array = search (rules, the_lemmas)

null-object : object_members json.Null ≡ None
null-object = search (rules, the_lemmas)

plain-array : (u : Value) (vs : List Value) → array_items u ≡ Some vs → is_null u ≡ false
plain-array u vs e = by (is_null u) refl
  where
    by : (z : Bool) → is_null u ≡ z → z ≡ false
    by false is = refl
    by true is = absurd (let n : None ≡ Some vs = sym null-array ∙ ap array_items (sym (null_same u is)) ∙ e in cc)

plain-object : (u : Value) (ms : List Member) → object_members u ≡ Some ms → is_null u ≡ false
plain-object u ms e = by (is_null u) refl
  where
    by : (z : Bool) → is_null u ≡ z → z ≡ false
    by false is = refl
    by true is = absurd (let n : None ≡ Some ms = sym null-object ∙ ap object_members (sym (null_same u is)) ∙ e in cc)

pub plain-items : (n : ℕ) (v : Option Value) → is_some (items_of n v) ≡ true → HasPlain v
plain-items n None e = absurd (cc)
plain-items n (Some u) e = by (array_items u) refl e
  where
    by : (o : Option (List Value)) → array_items u ≡ o → is_some (of_length n o) ≡ true → is_null u ≡ false
    by None is some = absurd (cc)
    by (Some vs) is some = plain-array u vs is

pub plain-members : (groups : List Group) (v : Option Value) → is_some (members_of groups v) ≡ true → HasPlain v
plain-members groups None e = absurd (cc)
plain-members groups (Some u) e = by (object_members u) refl e
  where
    by : (o : Option (List Member)) → object_members u ≡ o → is_some (with_keys groups o) ≡ true → is_null u ≡ false
    by None is some = absurd (cc)
    by (Some ms) is some = plain-object u ms is

-- what is not there is none
pub none-is : {A : Type 0} (o : Option A) → is_some o ≡ false → o ≡ None
none-is None e = refl
none-is (Some x) e = absurd (cc)

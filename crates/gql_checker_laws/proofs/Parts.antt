-- Truth values, and values by their parts.
use Rattle.std.proofs.Common.{◌≡◌, List, Option, Some, None, Bool, true, false, refl, sym, subst, ap, ◌∙◌, inl, inr, ◌⊎◌, rules}
use Rattle.std.specs.Prelude.{◌||◌, ◌&&◌, not, is_some}
use Rattle.jb_tree.specs.Value.{array_items, object_members, is_null, items_at, members_at, null_at}
use Rattle.jb_tree.specs.declared.value.Value.{Value, roll-Value, out-Value, the_lemmas}
use Rattle.jb_tree.specs.declared.value.Value.TheOpen.{Value-F}
use Rattle.jb_tree.specs.declared.value.Value.TheVariants as json
use Rattle.gql_resolvers.specs.Execute.{Member}
use Rattle.gql_resolvers.specs.Trail.{Segment}
use Rattle.gql_checker_laws.specs.Claims.{first_of}
use Rattle.gql_checker_laws.specs.Walk.{is_none, kept_if}

pub or_left : (a b : Bool) → a ≡ true → (a || b) ≡ true
or_left true b e = refl
or_left false b e = absurd (cc)

pub or_right : (a b : Bool) → b ≡ true → (a || b) ≡ true
or_right true b e = refl
or_right false b e = e

pub or_cases : (a b : Bool) → (a || b) ≡ true → (a ≡ true) ⊎ (b ≡ true)
or_cases true b e = inl refl
or_cases false b e = inr e

pub and_both : (a b : Bool) → (a && b) ≡ true → (a ≡ true) × (b ≡ true)
and_both true b e = (refl, e)
and_both false b e = absurd (cc)

pub and_made : (a b : Bool) → a ≡ true → b ≡ true → (a && b) ≡ true
and_made true b e f = f
and_made false b e f = absurd (cc)

pub not_true : (b : Bool) → not b ≡ true → b ≡ false
not_true true e = absurd (cc)
not_true false e = refl

pub not_made : (b : Bool) → b ≡ false → not b ≡ true
not_made true e = absurd (cc)
not_made false e = refl

pub none_is : {A : Type 0} (o : Option A) → is_none o ≡ true → o ≡ None
none_is None e = refl
none_is (Some x) e = absurd (cc)

pub none_made : {A : Type 0} (o : Option A) → o ≡ None → is_none o ≡ true
none_made None e = refl
none_made (Some x) e = absurd (cc)

pub some_is : {A : Type 0} (o : Option A) → is_some o ≡ true → (x : A) × (o ≡ Some x)
some_is None e = absurd (cc)
some_is (Some x) e = (x, refl)

pub first_none : (a b : Option (List Segment)) → first_of a b ≡ None → (a ≡ None) × (b ≡ None)
first_none None b e = (refl, e)
first_none (Some p) b e = absurd (cc)

pub none_first : (a b : Option (List Segment)) → a ≡ None → b ≡ None → first_of a b ≡ None
none_first None b e f = f
none_first (Some p) b e f = absurd (cc)

pub first_some : (a b : Option (List Segment)) (p : List Segment) → first_of a b ≡ Some p → (a ≡ Some p) ⊎ ((a ≡ None) × (b ≡ Some p))
first_some None b p e = inr (refl, e)
first_some (Some q) b p e = inl e

pub kept_some : {A : Type 0} (b : Bool) (x y : A) → kept_if b x ≡ Some y → (b ≡ true) × (x ≡ y)
kept_some true x y e = let same : x ≡ y = cc in (refl, same)
kept_some false x y e = absurd (cc)

-- ---- values

opened : (v : Value) → roll-Value (out-Value v) ≡ v
opened v = search (rules, the_lemmas)

pub array_array : (vs : List Value) → array_items (json.Array vs) ≡ Some vs
array_array vs = search (rules, the_lemmas)

pub object_object : (ms : List Member) → object_members (json.Object ms) ≡ Some ms
object_object ms = search (rules, the_lemmas)

pub null_null : is_null json.Null ≡ true
null_null = search (rules, the_lemmas)

array_level : (x : Value-F Value) → array_items (roll-Value x) ≡ items_at x
array_level x = search (rules, the_lemmas)

object_level : (x : Value-F Value) → object_members (roll-Value x) ≡ members_at x
object_level x = search (rules, the_lemmas)

null_level : (x : Value-F Value) → is_null (roll-Value x) ≡ null_at x
null_level x = search (rules, the_lemmas)

level_array : (x : Value-F Value) (vs : List Value) → array_items (roll-Value x) ≡ Some vs → roll-Value x ≡ json.Array vs
unfolding roll-Value denote.Hole.Carrier.roll
level_array x vs e = of_level x (sym (array_level x) ∙ e) where
  of_level : (y : Value-F Value) → items_at y ≡ Some vs → roll-Value y ≡ json.Array vs
  of_level (Value-F.Array us) f = let same : us ≡ vs = cc in ap json.Array same
  of_level y f = absurd (cc)

pub array_same : (v : Value) (vs : List Value) → array_items v ≡ Some vs → v ≡ json.Array vs
array_same v vs e = subst (λ u. array_items u ≡ Some vs → u ≡ json.Array vs) (opened v) (level_array (out-Value v) vs) e

level_object : (x : Value-F Value) (ms : List Member) → object_members (roll-Value x) ≡ Some ms → roll-Value x ≡ json.Object ms
unfolding roll-Value denote.Hole.Carrier.roll
level_object x ms e = of_level x (sym (object_level x) ∙ e) where
  of_level : (y : Value-F Value) → members_at y ≡ Some ms → roll-Value y ≡ json.Object ms
  of_level (Value-F.Object us) f = let same : us ≡ ms = cc in ap json.Object same
  of_level y f = absurd (cc)

pub object_same : (v : Value) (ms : List Member) → object_members v ≡ Some ms → v ≡ json.Object ms
object_same v ms e = subst (λ u. object_members u ≡ Some ms → u ≡ json.Object ms) (opened v) (level_object (out-Value v) ms) e

level_null : (x : Value-F Value) → is_null (roll-Value x) ≡ true → roll-Value x ≡ json.Null
unfolding roll-Value denote.Hole.Carrier.roll
level_null x e = of_level x (sym (null_level x) ∙ e) where
  of_level : (y : Value-F Value) → null_at y ≡ true → roll-Value y ≡ json.Null
  of_level Value-F.Null f = refl
  of_level y f = absurd (cc)

pub null_same : (v : Value) → is_null v ≡ true → v ≡ json.Null
null_same v e = subst (λ u. is_null u ≡ true → u ≡ json.Null) (opened v) (level_null (out-Value v)) e

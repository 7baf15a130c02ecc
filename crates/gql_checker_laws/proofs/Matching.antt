-- What a response has at places, beside what the walk looks at there.
use Rattle.std.proofs.Common.{arith, ◌≡◌, ℕ, zero, suc, true, false, List, [], ◌∷◌, length, Option, Some, None, Result, refl, sym, ap, ◌∙◌}
use Rattle.std.specs.Prelude.{◌&&◌}
use Rattle.std.specs.Str.{bytes_eq}
use Rattle.jb_tree.specs.declared.value.Value.{Value}
use Rattle.jb_tree.specs.Value.{array_items, object_members}
use Rattle.gql_collect.specs.declared.group.Group.{Group as FieldsOfKey}
use Rattle.gql_exec.proofs.Views.{views}
use Rattle.gql_exec.specs.Request.{Request}
use Rattle.gql_exec.specs.RequestWorld.{plain_world}
use Rattle.gql_resolvers.specs.Execute.{Member}
use Rattle.gql_resolvers.specs.Meaning.{meanings_by}
use Rattle.gql_resolvers.specs.declared.resolve_error.FieldError.{FieldError}
use Rattle.gql_resolvers.specs.declared.resolved_value.ResolvedValue.{ResolvedValue}
use Rattle.gql_checker_laws.specs.Walk.{array_for, count, kept_if, object_for, of_keys, of_length, same_keys, same_length}
use Rattle.gql_checker_laws.specs.Reported.{have_keys, key_in, items_of, members_of, with_keys}

-- ---- lists

same-is : {A : Type 0} (n : ℕ) (vs : List A) → length vs ≡ n → same_length n vs ≡ true
same-is zero [] e = refl
same-is zero (v ∷ vs) e = absurd (omega (arith, e))
same-is (suc n) [] e = absurd (omega (arith, e))
same-is (suc n) (v ∷ vs) e = same-is n vs (omega (arith, e))

same-not : {A : Type 0} (n : ℕ) (vs : List A) → (length vs ≡ n → ⊥) → same_length n vs ≡ false
same-not zero [] e = absurd (e refl)
same-not zero (v ∷ vs) e = refl
same-not (suc n) [] e = refl
same-not (suc n) (v ∷ vs) e = same-not n vs (λ same. e (omega (arith, same)))

pub items-some : (n : ℕ) (u : Value) (vs : List Value) → array_items u ≡ Some vs → length vs ≡ n → items_of n (Some u) ≡ Some vs
items-some n u vs is sized = ap (of_length n) is ∙ ap (λ b. kept_if b vs) (same-is n vs sized)

pub items-other : (n : ℕ) (u : Value) (vs : List Value) → array_items u ≡ Some vs → (length vs ≡ n → ⊥) → items_of n (Some u) ≡ None
items-other n u vs is sized = ap (of_length n) is ∙ ap (λ b. kept_if b vs) (same-not n vs sized)

pub items-none : (n : ℕ) (u : Value) → array_items u ≡ None → items_of n (Some u) ≡ None
items-none n u is = ap (of_length n) is

count-items : {O X : Type 0} (see : O → X) (items : List (Result (ResolvedValue O) FieldError)) → count (meanings_by see items) ≡ length items
count-items see [] = refl
count-items see (item ∷ items) = ap suc (count-items see items)

pub items-given : {O X : Type 0} (see : O → X) (items : List (Result (ResolvedValue O) FieldError)) (v : Option Value)
    → items_of (length items) v ≡ array_for (meanings_by see items) v
items-given see items None = refl
items-given see items (Some u) = ap (λ n. of_length n (array_items u)) (sym (count-items see items))

-- ---- objects

pub keys-given : {X : Type 0} (r : Request X) (groups : List FieldsOfKey) (ms : List Member) → have_keys groups ms ≡ same_keys (plain_world r) (views groups) ms
keys-given r [] [] = refl
keys-given r [] (m ∷ ms) = refl
keys-given r (g ∷ gs) [] = refl
keys-given r (g ∷ gs) (m ∷ ms) = ap (λ b. bytes_eq (key_in g) m.0 && b) (keys-given r gs ms)

pub members-given : {X : Type 0} (r : Request X) (groups : List FieldsOfKey) (v : Option Value) → members_of groups v ≡ object_for (plain_world r) (views groups) v
members-given r groups None = refl
members-given r groups (Some u) = by (object_members u)
  where
    by : (o : Option (List Member)) → with_keys groups o ≡ of_keys (plain_world r) (views groups) o
    by None = refl
    by (Some ms) = ap (λ b. kept_if b ms) (keys-given r groups ms)

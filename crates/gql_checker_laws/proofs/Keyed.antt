-- Keys of members and lengths of lists, as the walk compares them.
use Rattle.std.proofs.Common.{◌≡◌, ℕ, List, [], ◌∷◌, Option, Some, None, true, refl, sym, ap, ◌∙◌}
use Rattle.std.specs.Str.{bytes_eq}
use Rattle.std.proofs.lemmas.Slice.Eq.{bytes_eq-Decides}
use Rattle.jb_tree.specs.Value.{array_items, object_members}
use Rattle.jb_tree.specs.declared.value.Value.{Value}
use Rattle.jb_tree.specs.declared.value.Value.TheVariants as json
use Rattle.gql_resolvers.specs.Resolved.{Meanings, no_answer, answer_then}
use Rattle.gql_resolvers.specs.World.{World, key_of}
use Rattle.gql_resolvers.specs.Depth.{AllGroups}
use Rattle.gql_resolvers.specs.Execute.{Member}
use Rattle.gql_checker_laws.specs.Bad.{names, keys_in, AreAsMany}
use Rattle.gql_checker_laws.specs.Walk.{count, same_length, of_length, array_for, same_keys, of_keys, object_for}
use Rattle.gql_checker_laws.proofs.Parts.{and_both, and_made, kept_some, array_array, object_object, array_same, object_same}

module _ {X T G S : Type 0} (w : World X T G S) where
  pub key_refl : (k : List ℕ) → bytes_eq k k ≡ true
  key_refl k = (bytes_eq-Decides k k).1 refl

  pub names_keyed : (gs : List G) (members : List Member) → same_keys w gs members ≡ true → names members ≡ keys_in w gs
  names_keyed [] [] e = refl
  names_keyed [] (m ∷ ms) e = absurd (cc)
  names_keyed (g ∷ gs) [] e = absurd (cc)
  names_keyed (g ∷ gs) (m ∷ ms) e =
      let b = and_both (bytes_eq (key_of w g) m.0) (same_keys w gs ms) e in
      ap (λ k. k ∷ names ms) (sym ((bytes_eq-Decides (key_of w g) m.0).0 b.0)) ∙ ap (λ l. key_of w g ∷ l) (names_keyed gs ms b.1)

  pub keyed_names : (gs : List G) (members : List Member) → names members ≡ keys_in w gs → same_keys w gs members ≡ true
  keyed_names [] [] e = refl
  keyed_names [] (m ∷ ms) e = absurd (cc)
  keyed_names (g ∷ gs) [] e = absurd (cc)
  keyed_names (g ∷ gs) (m ∷ ms) e =
      let a : m.0 ≡ key_of w g = cc in
      let b : names ms ≡ keys_in w gs = cc in
      and_made (bytes_eq (key_of w g) m.0) (same_keys w gs ms) ((bytes_eq-Decides (key_of w g) m.0).1 (sym a)) (keyed_names gs ms b)

  pub object_is : (gs : List G) (u : Value) (o : Option (List Member)) (members : List Member) → object_members u ≡ o → of_keys w gs o ≡ Some members
      → (u ≡ json.Object members) × (same_keys w gs members ≡ true)
  object_is gs u None members e h = absurd (cc)
  object_is gs u (Some us) members e h =
      let k = kept_some (same_keys w gs us) us members h in
      (object_same u us e ∙ ap json.Object k.1, ap (λ l. same_keys w gs l) (sym k.1) ∙ k.0)

  pub object_found_for : (gs : List G) (members : List Member) → same_keys w gs members ≡ true → object_for w gs (Some (json.Object members)) ≡ Some members
  object_found_for gs members e = rw (object_object members) (rw e refl)

  pub no_keys : (members : List Member) → same_keys w [] members ≡ true → members ≡ []
  no_keys [] e = refl
  no_keys (m ∷ ms) e = absurd (cc)

  pub all_groups : (P Q : G → Type 0) (gs : List G) → ((g : G) → P g → Q g) → AllGroups w P gs → AllGroups w Q gs
  all_groups P Q [] f p = tt
  all_groups P Q (g ∷ gs) f p = (f g p.0, all_groups P Q gs f p.1)

module _ {X : Type 0} where
  pub array_is : (ms : Meanings X) (u : Value) (o : Option (List Value)) (vs : List Value) → array_items u ≡ o → of_length (count ms) o ≡ Some vs
      → (u ≡ json.Array vs) × (same_length (count ms) vs ≡ true)
  array_is ms u None vs e h = absurd (cc)
  array_is ms u (Some us) vs e h =
      let k = kept_some (same_length (count ms) us) us vs h in
      (array_same u us e ∙ ap json.Array k.1, ap (λ (l : List Value). same_length (count ms) l) (sym k.1) ∙ k.0)

  pub array_found : (ms : Meanings X) (vs : List Value) → same_length (count ms) vs ≡ true → array_for ms (Some (json.Array vs)) ≡ Some vs
  array_found ms vs e = rw (array_array vs) (rw e refl)

  pub long_counted : (ms : Meanings X) (vs : List Value) → same_length (count ms) vs ≡ true → AreAsMany ms vs
  long_counted no_answer [] e = tt
  long_counted no_answer (v ∷ vs) e = absurd (cc)
  long_counted (answer_then m ms) [] e = absurd (cc)
  long_counted (answer_then m ms) (v ∷ vs) e = long_counted ms vs e

  pub counted_long : (ms : Meanings X) (vs : List Value) → AreAsMany ms vs → same_length (count ms) vs ≡ true
  counted_long no_answer [] h = refl
  counted_long no_answer (v ∷ vs) h = absurd h
  counted_long (answer_then m ms) [] h = absurd h
  counted_long (answer_then m ms) (v ∷ vs) h = counted_long ms vs h

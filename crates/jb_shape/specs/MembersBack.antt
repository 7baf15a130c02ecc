-- The object that stands for members is read as them.
use Rattle.std.proofs.Common.{◌≡◌, ◌≢◌, ap, sym, ◌∙◌, subst, ℕ, List, [], ◌∷◌, Bool, true, false, Option, Some, Ok, Err, Result, refl}
use Rattle.std.specs.Str.{bytes_eq}
use Rattle.std.proofs.lemmas.Slice.Eq.{bytes_eq-Decides}
use Rattle.indexmap.specs.IndexMap.{insert_entry, insert_all}
use Rattle.jb_tree.specs.declared.value.Value.{Value}
use Rattle.jb_tree.specs.declared.value.Value.TheVariants as value_variant
use Rattle.jb_tree.specs.Value.{object_members}
use Rattle.jb_shape.specs.declared.members.Members.{Members}
use Rattle.jb_shape.specs.declared.shape_error.ShapeError.{ShapeError}
use Rattle.jb_shape.specs.Outcome.{and_then, each, both}
use Rattle.jb_shape.specs.Scalars.{of_kind}
use Rattle.jb_shape.specs.Lists.{member_value, members_value, read_member}
use Rattle.jb_shape.specs.Members.{reading_of_members}
use Rattle.jb_shape.specs.Faithful.{AllOf, AreMembers, HasDistinctKeys, IsNoKey}
use Rattle.jb_shape.specs.Back.{both_ok, each_back, members-Object}

and_then_ok : {A B : Type 0} (r : Result A ShapeError) (next : A → Result B ShapeError) (b : B) → and_then r next ≡ Ok b
    → (a : A) × (r ≡ Ok a) × (next a ≡ Ok b)
and_then_ok (Ok a) next b h = (a, refl, h)
and_then_ok (Err e) next b h = cc

first_ok : {A B : Type 0} (r : Result A ShapeError) (s : Result B ShapeError) (p : A × B) → both r s ≡ Ok p → r ≡ Ok p.0
first_ok (Ok a) (Ok b) p h = let e : p ≡ (a, b) = cc in rw e
first_ok (Ok a) (Err e) p h = cc
first_ok (Err e) s p h = cc

false_by : (b : Bool) → (b ≡ true → ⊥) → b ≡ false
false_by true h = absurd (h refl)
false_by false h = refl

abbrev object_found : List (List ℕ × Value) → Option (List (List ℕ × Value))
object_found members = object_members (value_variant.Object members)

abbrev members_of : {K V : Type 0} → List (K × V) → Members K V
members_of all = record { pairs = all }

module _ {V : Type 0} where
  -- a pair whose key comes nowhere later stays in front
  front : (later : List (List ℕ × V)) (pair : List ℕ × V) (pairs : List (List ℕ × V)) → AllOf (λ other. bytes_eq other.0 pair.0 ≡ false) later
      → insert_all bytes_eq (pair ∷ pairs) later ≡ pair ∷ insert_all bytes_eq pairs later
  front [] pair pairs apart = refl
  front (other ∷ later) pair pairs apart =
      rw apart.0 (front later pair (insert_entry bytes_eq pairs other.0 other.1) apart.1)

module _ {K V : Type 0} (key : List ℕ → Result K ShapeError) (reading : Value → Result V ShapeError) where
  -- texts that are read as different keys differ
  differs : (a b : List ℕ) (k l : K) → key a ≡ Ok k → key b ≡ Ok l → l ≢ k → bytes_eq a b ≡ false
  differs a b k l ka kb other = false_by (bytes_eq a b) (λ t.
      let same : a ≡ b = (bytes_eq-Decides a b).0 t in
      let one : Ok l ≡ Ok k = sym kb ∙ ap key (sym same) ∙ ka in
      let equal : l ≡ k = cc in
      other equal)

  others : (texts : List (List ℕ × Value)) (pairs : List (K × V)) (pair : List ℕ × Value) (read : K) → key pair.0 ≡ Ok read
      → each (read_member key reading) texts ≡ Ok pairs → IsNoKey read pairs → AllOf (λ other. bytes_eq other.0 pair.0 ≡ false) texts
  others [] pairs pair read h g none = tt
  others (text ∷ texts) pairs pair read h g none =
      let first = and_then_ok (read_member key reading text) (λ b. and_then (each (read_member key reading) texts) (λ bs. Ok (b ∷ bs))) pairs g in
      let rest = and_then_ok (each (read_member key reading) texts) (λ bs. Ok (first.0 ∷ bs)) pairs first.2 in
      let e : pairs ≡ first.0 ∷ rest.0 = cc in
      let parts : IsNoKey read (first.0 ∷ rest.0) = subst (λ (all : List (K × V)). IsNoKey read all) e none in (
        differs text.0 pair.0 first.0.0 read (first_ok (key text.0) (reading text.1) first.0 first.1) h parts.0,
        others texts rest.0 pair read h rest.1 parts.1,
      )

  -- so each pair goes last
  in_turn : (texts : List (List ℕ × Value)) (pairs : List (K × V)) → each (read_member key reading) texts ≡ Ok pairs → HasDistinctKeys pairs
      → insert_all bytes_eq [] texts ≡ texts
  in_turn [] pairs g distinct = refl
  in_turn (text ∷ texts) pairs g distinct =
      let first = and_then_ok (read_member key reading text) (λ b. and_then (each (read_member key reading) texts) (λ bs. Ok (b ∷ bs))) pairs g in
      let rest = and_then_ok (each (read_member key reading) texts) (λ bs. Ok (first.0 ∷ bs)) pairs first.2 in
      let e : pairs ≡ first.0 ∷ rest.0 = cc in
      let parts : HasDistinctKeys (first.0 ∷ rest.0) = subst (λ (all : List (K × V)). HasDistinctKeys all) e distinct in
      let apart = others texts rest.0 text first.0.0 (first_ok (key text.0) (reading text.1) first.0 first.1) rest.1 parts.0 in
      front texts text [] apart ∙ ap (λ l. text ∷ l) (in_turn texts rest.0 rest.1 parts.1)

  object_back : (texts : Result (List (List ℕ × Value)) ShapeError) (pairs : List (K × V)) → and_then texts (each (read_member key reading)) ≡ Ok pairs
      → HasDistinctKeys pairs
      → and_then (and_then texts (λ all. Ok (value_variant.Object (insert_all bytes_eq [] all)))) (reading_of_members key reading)
      ≡ Ok (record { pairs = pairs })
  object_back (Err e) pairs h distinct = cc
  object_back (Ok texts) pairs h distinct =
      let whole : object_found (insert_all bytes_eq [] texts) ≡ Some texts = members-Object (insert_all bytes_eq [] texts)
      ∙ ap Some (in_turn texts pairs h distinct) in
      ap (λ (found : Option (List (List ℕ × Value))). and_then (and_then (of_kind found) (each (read_member key reading)))
      (λ all. Ok (members_of all))) whole
      ∙ ap (λ r. and_then r (λ all. Ok (members_of all))) h

  member_back : (text : Result (List ℕ) ShapeError) (value : Result Value ShapeError) (k : K) (v : V) → and_then text key ≡ Ok k
      → and_then value reading ≡ Ok v
      → and_then (both text value) (read_member key reading) ≡ Ok (k, v)
  member_back (Err e) value k v h g = cc
  member_back (Ok text) (Err e) k v h g = cc
  member_back (Ok text) (Ok value) k v h g = both_ok (key text) (reading value) k v h g

  pub members_back : (text : K → Result (List ℕ) ShapeError) (P : K → Type 0) → ((k : K) → P k → and_then (text k) key ≡ Ok k)
      → (shape : V → Result Value ShapeError) (Q : V → Type 0) → ((v : V) → Q v → and_then (shape v) reading ≡ Ok v)
      → (members : Members K V) → AreMembers P Q members.pairs
      → and_then (members_value text shape members.pairs) (reading_of_members key reading) ≡ Ok members
  members_back text P keys shape Q values members are =
      object_back (each (member_value text shape) members.pairs) members.pairs
      (each_back (read_member key reading) (member_value text shape) (λ pair. P pair.0 × Q pair.1)
      (λ pair parts. member_back (text pair.0) (shape pair.1) pair.0 pair.1 (keys pair.0 parts.0) (values pair.1 parts.1)) members.pairs are.0)
      are.1

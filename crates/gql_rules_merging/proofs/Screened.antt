-- Where no pair that is found by classes breaks the rule, no pair that is compared does.
use Rattle.std.proofs.Common.{◌≡◌, ◌⊎◌, inl, inr, ℕ, ◌<◌, Bool, true, false, not, cond, ◌&&◌, ◌==◌, Option, Some, None, List, [], ◌++◌, length, refl, sym, ap, ◌∙◌, subst, arith}
use Rattle.std.specs.List.{Contains, list_all, slice_get}
use Rattle.std.specs.Option.{option_map_or, option_and_then, option_map, unwrap_or}
use Rattle.std.specs.Prelude.{is_some, nat_lt}
use Rattle.std.proofs.lemmas.Bool.{eqb-true}
use Rattle.std.proofs.lemmas.List.Elements.{Contains-append_left, Contains-append_right, Contains-append_cases}
use Rattle.std.proofs.lemmas.Option.{slice_get_within, slice_get-map}
use Rattle.gql_graph.specs.Graph.{Graph}
use Rattle.gql_graph.specs.bridge.Explored.{pair_of, class_of, IsMet, same, other, IsExplored}
use Rattle.gql_graph.specs.Pairs.{Sets, IsField, AreAlike, IsCompared, in_set, below as under, of_field, items_below}
use Rattle.gql_graph.specs.declared.pair.Pair.{Pair}
use Rattle.gql_schema_types.specs.declared.types.ExtendedType.{ExtendedType}
use Rattle.gql_rules_merging.proofs.Pairing.{got_within}
use Rattle.gql_rules_merging.specs.bridge.Classes.{is_like, AreClasses, turned, is_sound}
use Rattle.gql_rules_merging.specs.FieldSelectionMerging.{below, below_fields, is_broken, are_apart, items, sets_of}
use Rattle.gql_rules_merging.specs.Numbering.{Selected, Numbered}
use Rattle.gql_rules_merging.specs.ResponseKeys.{has_key, place_of, key_number, key_numbers}
use Rattle.gql_rules_merging.proofs.Likeness.{Like, IsOwnMatch, given_alike, alike, apart_like, apart_turned, broken_less, broken_like, broken_self, like_on, like_refl, like_turned, moved}
use Rattle.gql_rules_merging.proofs.Truths.{both_true, all_at, one_got}

-- ---- the fields of a document

record Found (fields : List Selected) (a : ℕ) : Type 0 where
  it : Selected
  at : slice_get fields a ≡ Some it

key_at : (fields : List Selected) (a k : ℕ) → slice_get (key_numbers fields) a ≡ Some k → (x : Found fields a) × (k ≡ key_number fields x.it)
key_at fields a k is = by_field (slice_get fields a) refl
  where
    by_field : (o : Option Selected) → slice_get fields a ≡ o → (x : Found fields a) × (k ≡ key_number fields x.it)
    by_field None at = absurd (let h : Some k ≡ None = sym is ∙ slice_get-map (key_number fields) fields a ∙ ap (option_map (key_number fields)) at in cc)
    by_field (Some x) at =
        (record { it = x; at = at }, (let h : Some k ≡ Some (key_number fields x) = sym is ∙ slice_get-map (key_number fields) fields a ∙ ap (option_map (key_number fields)) at in cc))

key_from : (fields : List Selected) (a : ℕ) (x : Selected) → slice_get fields a ≡ Some x → slice_get (key_numbers fields) a ≡ Some (key_number fields x)
key_from fields a x at = slice_get-map (key_number fields) fields a ∙ ap (option_map (key_number fields)) at

items_at : (fields : List Selected) (a : ℕ) (x : Selected) → slice_get fields a ≡ Some x → items fields a ≡ x.items
items_at fields a x at = ap (λ o. option_map_or (λ (field : Selected). field.items) o []) at

below_at : (types : List ExtendedType) (fields : List Selected) (p : Pair) (x y : Selected) → slice_get fields p.first ≡ Some x → slice_get fields p.second ≡ Some y
    → below types fields p ≡ below_fields types p.in_full x y
below_at types fields p x y first second =
    ap (λ o. option_and_then (λ one. option_and_then (below_fields types p.in_full one) (slice_get fields p.second)) o) first ∙ ap (option_and_then (below_fields types p.in_full x)) second

unbroken : (types : List ExtendedType) (m : Bool) (x y : Selected) → is_some (below_fields types m x y) ≡ true → is_broken types m x y ≡ false
unbroken types m x y is = by_test (is_broken types m x y) refl is
  where
    by_test : (t : Bool) → is_broken types m x y ≡ t → is_some (cond t None (Some (m && not (are_apart types x y)))) ≡ true → is_broken types m x y ≡ false
    by_test true e is = absurd cc
    by_test false e is = e

goes_on : (types : List ExtendedType) (m : Bool) (x y : Selected) → is_broken types m x y ≡ false → below_fields types m x y ≡ Some (m && not (are_apart types x y))
goes_on types m x y is = ap (λ t. cond t None (Some (m && not (are_apart types x y)))) is

abbrev made : ℕ × ℕ × Bool → Pair
made p = record { first = p.0; second = p.1; in_full = p.2 }

-- a pair in its order
in_order : (m : Bool) (c d : ℕ) → (pair_of m c d).first < (pair_of m c d).second
    → (pair_of m c d ≡ record { first = c; second = d; in_full = m }) ⊎ (pair_of m c d ≡ record { first = d; second = c; in_full = m })
in_order m c d ordered = by_test (nat_lt c d)
  where
    by_test : (t : Bool) → (cond t (made (c, d, m)) (made (d, c, m)) ≡ made (c, d, m)) ⊎ (cond t (made (c, d, m)) (made (d, c, m)) ≡ made (d, c, m))
    by_test true = inl refl
    by_test false = inr refl

module _ (types : List ExtendedType) (document : Numbered) (classes : List ℕ) (found : List Pair)
    (are : AreClasses (length document.fragments) document.fields classes) (explored : IsExplored (sets_of types document) classes found)
    (sound : list_all (is_sound types document.fields) found ≡ true) where
  abbrev g : Graph
  g = document.fragments

  abbrev fields : List Selected
  fields = document.fields

  abbrev keys : List ℕ
  keys = key_numbers fields

  abbrev s : Sets
  s = sets_of types document

  abbrev OneClass : ℕ → ℕ → Type 0
  OneClass a b = class_of classes a ≡ class_of classes b

  abbrev IsLike : Selected → Selected → Type 0
  IsLike x y = Like (length g) (length fields) classes x y

  -- a field is alone, or like the one that its class is called after
  rep : (a : ℕ) (x : Selected) → slice_get fields a ≡ Some x
      → (class_of classes a ≡ a) ⊎ ((z : Selected) × (slice_get fields (class_of classes a) ≡ Some z) × IsLike x z × IsOwnMatch x)
  rep a x is = by_class (slice_get classes a) refl
    where
      Goal : Type 0
      Goal = (class_of classes a ≡ a) ⊎ ((z : Selected) × (slice_get fields (class_of classes a) ≡ Some z) × IsLike x z × IsOwnMatch x)

      by_found : (r : ℕ) → slice_get classes a ≡ Some r → (o : Option Selected) → slice_get fields r ≡ o → option_map_or (is_like (length g) classes x) o false ≡ true → Goal
      by_found r at None missing like = absurd cc
      by_found r at (Some z) there like =
          let both = alike (length g) (length fields) classes x z are.as_many like in
          inr (z, ap (λ o. slice_get fields (unwrap_or o a)) at ∙ there, both.0, both.1)

      by_test : (r : ℕ) → slice_get classes a ≡ Some r → (t : Bool) → (a == r) ≡ t → Goal
      by_test r at true e = inl (ap (λ o. unwrap_or o a) at ∙ sym (eqb-true a r e))
      by_test r at false e = by_found r at (slice_get fields r) refl (are.like a r x at is e)

      by_class : (o : Option ℕ) → slice_get classes a ≡ o → Goal
      by_class None at = inl (ap (λ o. unwrap_or o a) at)
      by_class (Some r) at = by_test r at (a == r) refl

  of_one_class : (a b : ℕ) (x y : Selected) → slice_get fields a ≡ Some x → slice_get fields b ≡ Some y → OneClass a b → IsLike x y × ((a ≡ b) ⊎ IsOwnMatch x)
  of_one_class a b x y at_a at_b one = by_reps (rep a x at_a) (rep b y at_b)
    where
      by_reps : (class_of classes a ≡ a) ⊎ ((z : Selected) × (slice_get fields (class_of classes a) ≡ Some z) × IsLike x z × IsOwnMatch x)
          → (class_of classes b ≡ b) ⊎ ((z : Selected) × (slice_get fields (class_of classes b) ≡ Some z) × IsLike y z × IsOwnMatch y)
          → IsLike x y × ((a ≡ b) ⊎ IsOwnMatch x)
      by_reps (inl e) (inl f) =
          let same_place : a ≡ b = sym e ∙ one ∙ f in
          let same_field = one_got fields b x y (ap (slice_get fields) (sym same_place) ∙ at_a) at_b in
          (subst (IsLike x) same_field (like_refl (length g) (length fields) classes x), inl same_place)
      by_reps (inl e) (inr q) =
          let same_field = one_got fields a q.0 x (ap (slice_get fields) (sym e ∙ one) ∙ q.1) at_a in
          let like = like_turned (length g) (length fields) classes y x (subst (IsLike y) same_field q.2) in
          (like, inr (given_alike x.arguments x.arguments y.arguments y.arguments like.arguments like.arguments ∙ q.3))
      by_reps (inr p) (inl f) =
          let same_field = one_got fields b p.0 y (ap (slice_get fields) (sym (one ∙ f)) ∙ p.1) at_b in
          (subst (IsLike x) same_field p.2, inr p.3)
      by_reps (inr p) (inr q) =
          let same_field = one_got fields (class_of classes b) p.0 q.0 (ap (slice_get fields) (sym one) ∙ p.1) q.1 in
          (like_on (length g) (length fields) classes x q.0 y (subst (IsLike x) same_field p.2) (like_turned (length g) (length fields) classes y q.0 q.2), inr p.3)

  key_same : (a b k : ℕ) → OneClass a b → (a ≡ b) ⊎ (a < length fields) → slice_get keys b ≡ Some k → slice_get keys a ≡ Some k
  key_same a b k one (inl e) is = ap (slice_get keys) e ∙ is
  key_same a b k one (inr within) is =
      let x = got_within fields a within in
      let y = key_at fields b k is in
      let like = (of_one_class a b x.0 y.0.it x.1 y.0.at one).0 in
      key_from fields a x.0 x.1 ∙ ap Some (ap (λ key. unwrap_or (place_of (has_key key) fields) 0) like.key ∙ sym y.1)

  -- what is selected in the fields of one class
  abbrev Moved : ℕ → ℕ → Type 0
  Moved a x = (y : ℕ) × IsField g (items fields a) y × OneClass y x × ((y ≡ x) ⊎ (y < length fields))

  moves : (a b x : ℕ) → Found fields a → Found fields b → OneClass a b → IsField g (items fields b) x → Moved a x
  moves a b x at_a at_b one field =
      let like = (of_one_class a b at_a.it at_b.it at_a.at at_b.at one).0 in
      subst (λ l. (y : ℕ) × IsField g l y × OneClass y x × ((y ≡ x) ⊎ (y < length fields))) (sym (items_at fields a at_a.it at_a.at))
      (moved (length g) (length fields) classes g refl at_a.it.items at_b.it.items x like.selected (subst (λ l. IsField g l x) (items_at fields b at_b.it at_b.at) field))

  -- one of two sets
  either_set : (is js : List ℕ) (x : ℕ) → IsField g (is ++ js) x → IsField g is x ⊎ IsField g js x
  either_set is js x field = elim (Contains-append_cases is js field.0 field.1) [ inl c ↦ inl (field.0, c, field.2) | inr c ↦ inr (field.0, c, field.2) ]

  left_set : (is js : List ℕ) (x : ℕ) → IsField g is x → IsField g (is ++ js) x
  left_set is js x field = (field.0, Contains-append_left is js field.0 field.1, field.2)

  right_set : (is js : List ℕ) (x : ℕ) → IsField g js x → IsField g (is ++ js) x
  right_set is js x field = (field.0, Contains-append_right is js field.0 field.1, field.2)

  -- the fields of a compared pair are there, in order
  record Both (p : Pair) : Type 0 where
    one : Found fields p.first
    two : Found fields p.second
    ordered : p.first < p.second

  both_of : {p : Pair} → IsCompared s p → Both p
  both_of {p} (in_set set pair full) =
      record { one = (key_at fields p.first pair.alike.key pair.alike.first_key).0; two = (key_at fields p.second pair.alike.key pair.alike.second_key).0; ordered = pair.ordered }
  both_of {p} (under is goes pair) =
      record { one = (key_at fields p.first pair.alike.key pair.alike.first_key).0; two = (key_at fields p.second pair.alike.key pair.alike.second_key).0; ordered = pair.ordered }

  -- what is known of two fields whose pair is found
  record Paired (m : Bool) (c d : ℕ) : Type 0 where
    one : Found fields c
    two : Found fields d
    whole : is_broken types m one.it two.it ≡ false
    in_full : Bool
    goes : s.below (pair_of m c d) ≡ Some in_full
    full : m ≡ true → are_apart types one.it two.it ≡ false → in_full ≡ true
    has_one : (x : ℕ) → IsField g (items fields c) x → IsField g (items_below s (pair_of m c d)) x
    has_two : (x : ℕ) → IsField g (items fields d) x → IsField g (items_below s (pair_of m c d)) x

  full_if : (m a : Bool) → m ≡ true → a ≡ false → (m && not a) ≡ true
  full_if m a full apart = ap (λ t. t && not a) full ∙ ap not apart

  paired : (m : Bool) (c d : ℕ) → Contains found (pair_of m c d) → Paired m c d
  paired m c d in_found = by_order (in_order m c d (both_of (explored.compared (pair_of m c d) in_found)).ordered)
    where
      q : Pair
      q = pair_of m c d

      tests : (is_some (below types fields q) ≡ true) × (is_some (below types fields (turned q)) ≡ true)
      tests = both_true (is_some (below types fields q)) (is_some (below types fields (turned q))) (all_at (is_sound types fields) found q sound in_found)

      there : Both q
      there = both_of (explored.compared q in_found)

      found_at : (a b : ℕ) → a ≡ b → Found fields a → Found fields b
      found_at a b e f = record { it = f.it; at = ap (slice_get fields) (sym e) ∙ f.at }

      by_order : (q ≡ record { first = c; second = d; in_full = m }) ⊎ (q ≡ record { first = d; second = c; in_full = m }) → Paired m c d
      by_order (inl e) =
          let one = found_at q.first c (ap (λ (p : Pair). p.first) e) there.one in
          let two = found_at q.second d (ap (λ (p : Pair). p.second) e) there.two in
          let goes = ap (below types fields) e ∙ below_at types fields (record { first = c; second = d; in_full = m }) one.it two.it one.at two.at in
          let whole = unbroken types m one.it two.it (ap is_some (sym goes) ∙ tests.0) in
          record {
            one = one;
            two = two;
            whole = whole;
            in_full = m && not (are_apart types one.it two.it);
            goes = goes ∙ goes_on types m one.it two.it whole;
            full = λ full apart. full_if m (are_apart types one.it two.it) full apart;
            has_one = λ x field. subst (λ (p : Pair). IsField g (items_below s p) x) (sym e) (left_set (items fields c) (items fields d) x field);
            has_two = λ x field. subst (λ (p : Pair). IsField g (items_below s p) x) (sym e) (right_set (items fields c) (items fields d) x field);
          }
      by_order (inr e) =
          let one = found_at q.second c (ap (λ (p : Pair). p.second) e) there.two in
          let two = found_at q.first d (ap (λ (p : Pair). p.first) e) there.one in
          let goes = ap (below types fields) e ∙ below_at types fields (record { first = d; second = c; in_full = m }) two.it one.it two.at one.at in
          let back = ap (λ p. below types fields (turned p)) e ∙ below_at types fields (record { first = c; second = d; in_full = m }) one.it two.it one.at two.at in
          let whole = unbroken types m one.it two.it (ap is_some (sym back) ∙ tests.1) in
          let other_whole = unbroken types m two.it one.it (ap is_some (sym goes) ∙ tests.0) in
          record {
            one = one;
            two = two;
            whole = whole;
            in_full = m && not (are_apart types two.it one.it);
            goes = goes ∙ goes_on types m two.it one.it other_whole;
            full = λ full apart. full_if m (are_apart types two.it one.it) full (apart_turned types two.it.parent.text one.it.parent.text ∙ apart);
            has_one = λ x field. subst (λ (p : Pair). IsField g (items_below s p) x) (sym e) (right_set (items fields d) (items fields c) x field);
            has_two = λ x field. subst (λ (p : Pair). IsField g (items_below s p) x) (sym e) (left_set (items fields d) (items fields c) x field);
          }

  -- a compared pair has one class, or a pair of its classes is found
  data Covered (p : Pair) : Type 0 where
    one_class : OneClass p.first p.second → Covered p
    by_pair : (c d : ℕ) (m : Bool) → OneClass c p.first → OneClass d p.second → Contains found (pair_of m c d) → (p.in_full ≡ true → m ≡ true) → Covered p

  met_covers : (p : Pair) (m : Bool) (x y : ℕ) → OneClass x p.first → OneClass y p.second → (p.in_full ≡ true → m ≡ true) → IsMet classes found m x y → Covered p
  met_covers p m x y e f full (same one) = one_class (sym e ∙ one ∙ f)
  met_covers p m x y e f full (other c d to_x to_y is) = by_pair c d m (to_x ∙ e) (to_y ∙ f) is full

  covers : {p : Pair} → IsCompared s p → Covered p
  covers {p} (in_set {items = set_items} set pair full) = met_covers p true p.first p.second refl refl (λ f. refl) (explored.in_sets set_items set p.first p.second pair.alike)
  covers {p} (under {above = above} is goes pair) = by_above (covers is)
    where
      at_above : Both above
      at_above = both_of is

      Below : ℕ → Type 0
      Below x = IsField g (items fields above.first) x ⊎ IsField g (items fields above.second) x

      first : Below p.first
      first = either_set (items fields above.first) (items fields above.second) p.first pair.alike.first

      second : Below p.second
      second = either_set (items fields above.first) (items fields above.second) p.second pair.alike.second

      was_full : p.in_full ≡ true → (above.in_full ≡ true) × (are_apart types at_above.one.it at_above.two.it ≡ false)
      was_full full =
          let goes_there = sym (below_at types fields above at_above.one.it at_above.two.it at_above.one.at at_above.two.at) ∙ goes in
          by_test (is_broken types above.in_full at_above.one.it at_above.two.it) goes_there
        where
          by_parts : (m a : Bool) → (m && not a) ≡ true → (m ≡ true) × (a ≡ false)
          by_parts true false is = (refl, refl)
          by_parts true true is = absurd cc
          by_parts false a is = absurd cc

          by_test : (t : Bool) → cond t None (Some (above.in_full && not (are_apart types at_above.one.it at_above.two.it))) ≡ Some p.in_full
              → (above.in_full ≡ true) × (are_apart types at_above.one.it at_above.two.it ≡ false)
          by_test true is = absurd cc
          by_test false is =
              by_parts above.in_full (are_apart types at_above.one.it at_above.two.it)
              (let h : (above.in_full && not (are_apart types at_above.one.it at_above.two.it)) ≡ p.in_full = cc in h ∙ full)

      -- both fields are moved into one set, where they meet
      meet : (set : List ℕ) (m : Bool) → (p.in_full ≡ true → m ≡ true) → ((x y : ℕ) → AreAlike g keys set x y → IsMet classes found m x y)
          → (x : ℕ) × IsField g set x × OneClass x p.first × ((x ≡ p.first) ⊎ (x < length fields))
          → (y : ℕ) × IsField g set y × OneClass y p.second × ((y ≡ p.second) ⊎ (y < length fields)) → Covered p
      meet set m full met x y =
          met_covers p m x.0 y.0 x.2 y.2 full
          (met x.0 y.0 (record {
            first = x.1;
            second = y.1;
            key = pair.alike.key;
            first_key = key_same x.0 p.first pair.alike.key x.2 x.3 pair.alike.first_key;
            second_key = key_same y.0 p.second pair.alike.key y.2 y.3 pair.alike.second_key;
          }))

      by_above : Covered above → Covered p
      by_above (one_class one) =
          meet (items fields above.first) true (λ full. refl)
          (explored.in_sets (items fields above.first) (of_field above.first within)) (into p.first first) (into p.second second)
        where
          within : above.first < length keys
          within = slice_get_within keys above.first (key_number fields at_above.one.it) (key_from fields above.first at_above.one.it at_above.one.at)

          into : (x : ℕ) → Below x → Moved above.first x
          into x (inl field) = (x, field, refl, inl refl)
          into x (inr field) = moves above.first above.second x at_above.one at_above.two one field
      by_above (by_pair c d m to_first to_second in_found full) =
          meet (items_below s (pair_of m c d)) pairing.in_full full_below
          (explored.further (pair_of m c d) pairing.in_full in_found pairing.goes) (into p.first first) (into p.second second)
        where
          pairing : Paired m c d
          pairing = paired m c d in_found

          into : (x : ℕ) → Below x → (y : ℕ) × IsField g (items_below s (pair_of m c d)) y × OneClass y x × ((y ≡ x) ⊎ (y < length fields))
          into x (inl field) = let y = moves c above.first x pairing.one at_above.one to_first field in (y.0, pairing.has_one y.0 y.1, y.2, y.3)
          into x (inr field) = let y = moves d above.second x pairing.two at_above.two to_second field in (y.0, pairing.has_two y.0 y.1, y.2, y.3)

          full_below : p.in_full ≡ true → pairing.in_full ≡ true
          full_below is_full =
              let was = was_full is_full in
              pairing.full (full was.0)
              (apart_like types (length g) (length fields) classes pairing.one.it pairing.two.it at_above.one.it at_above.two.it
              (of_one_class c above.first pairing.one.it at_above.one.it pairing.one.at at_above.one.at to_first).0
              (of_one_class d above.second pairing.two.it at_above.two.it pairing.two.at at_above.two.at to_second).0 ∙ was.1)

  pub none_breaks : (p : Pair) → IsCompared s p → below types fields p ≡ None → ⊥
  none_breaks p is breaks = by_cover (covers is)
    where
      at : Both p
      at = both_of is

      clash : is_broken types p.in_full at.one.it at.two.it ≡ false → ⊥
      clash whole =
          let goes = sym (below_at types fields p at.one.it at.two.it at.one.at at.two.at ∙ goes_on types p.in_full at.one.it at.two.it whole) ∙ breaks in
          let h : Some (p.in_full && not (are_apart types at.one.it at.two.it)) ≡ None = goes in cc

      by_cover : Covered p → ⊥
      by_cover (one_class one) =
          let like = of_one_class p.first p.second at.one.it at.two.it at.one.at at.two.at one in
          elim like.1 [
            | inl e ↦ omega (arith, e, at.ordered)
            | inr own ↦ clash (broken_like types (length g) (length fields) classes p.in_full at.one.it at.two.it at.one.it at.one.it (like_refl (length g) (length fields) classes at.one.it)
                (like_turned (length g) (length fields) classes at.one.it at.two.it like.0) ∙ broken_self types p.in_full at.one.it own)
          ]
      by_cover (by_pair c d m to_first to_second in_found full) =
          let pairing = paired m c d in_found in
          clash (sym (broken_like types (length g) (length fields) classes p.in_full pairing.one.it pairing.two.it at.one.it at.two.it
          (of_one_class c p.first pairing.one.it at.one.it pairing.one.at at.one.at to_first).0
          (of_one_class d p.second pairing.two.it at.two.it pairing.two.at at.two.at to_second).0)
          ∙ broken_less types m p.in_full pairing.one.it pairing.two.it full pairing.whole)

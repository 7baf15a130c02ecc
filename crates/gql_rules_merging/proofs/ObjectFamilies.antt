-- Where families are of one shape, and the fields of one place that meet agree, no pair breaks the rule.
use Rattle.std.proofs.Common.{◌≡◌, ◌⊎◌, inl, inr, ℕ, zero, suc, ◌<◌, ◌≤◌, ◌+◌, Bool, true, false, not, cond, ◌&&◌, ◌||◌, ◌==◌, Option, Some, None, position, List, [], ◌∷◌, length, refl, sym, ap, ◌∙◌, subst, arith}
use Rattle.std.specs.Bool.{beq}
use Rattle.std.specs.List.{AllByRecursion, IsDistinct, slice_get}
use Rattle.std.specs.Option.{option_map_or, option_and_then, unwrap_or}
use Rattle.std.specs.Str.{bytes_eq}
use Rattle.std.proofs.lemmas.Bool.{eq-eqb}
use Rattle.std.proofs.lemmas.Map.Keys.{IsDistinct-head, IsDistinct-tail}
use Rattle.std.proofs.lemmas.Option.{slice_get_within}
use Rattle.gql_graph.proofs.Flooded.{same_or_not}
use Rattle.gql_graph.specs.bridge.Explored.{class_of, IsExplored}
use Rattle.gql_graph.specs.Pairs.{IsCompared, in_set, below as under}
use Rattle.gql_graph.specs.declared.pair.Pair.{Pair}
use Rattle.gql_schema_types.specs.Entries.{is_called}
use Rattle.gql_schema_types.specs.Types.{type_name as name_of}
use Rattle.gql_schema_types.specs.declared.types.ExtendedType.{ExtendedType}
use Rattle.gql_rules_merging.proofs.Agreement.{not-false, SameNamed, named_turned, named_on, named_holds, named_of, type_name, shape, Agree, Found, HasHead, within_by, one_by, of_one_family, met_in_set, met_below, one_family, below_at, none_by}
use Rattle.gql_rules_merging.proofs.Pairing.{got_within}
use Rattle.gql_rules_merging.proofs.Truths.{both_true, either_true, one_text, text_refl, one_levels, levels_refl}
use Rattle.gql_rules_merging.specs.ConflictingFieldArgument.{same_arguments}
use Rattle.gql_rules_merging.specs.ConflictingFieldType.{same_levels, same_named, same_shape, are_known, types_conflict}
use Rattle.gql_rules_merging.specs.bridge.Families.{AreAgreed, AreShaped, IsGathered, is_shaped_with, is_shaped_at, sets_over}
use Rattle.gql_rules_merging.specs.FieldSelectionMerging.{below, below_fields, is_broken, are_apart, differ, is_object_name, sets_of}
use Rattle.gql_rules_merging.specs.Numbering.{Selected, Numbered}
use Rattle.gql_rules_merging.specs.bridge.Places.{is_mixed, is_place, is_on_object, is_on_object_at, type_number, parent_number, place_in, place_of, AreOnObjects, ArePlaces}
use Rattle.gql_rules_merging.specs.ResponseKeys.{key_numbers}
use Rattle.gql_rules_merging.specs.bridge.Telling.{NoneBreaks}
use Rattle.gql_rules_merging.specs.declared.places.Place.{Place}

-- ---- fields of one shape

module _ (types : List ExtendedType) where
  pub record Shaped (x y : Selected) : Type 0 where
    pub levels : shape types x ≡ shape types y
    pub named : SameNamed types (type_name types x) (type_name types y)

  shaped_turned : (x y : Selected) → Shaped x y → Shaped y x
  shaped_turned x y a = record { levels = sym a.levels; named = named_turned types (type_name types x) (type_name types y) a.named }

  shaped_on : (x y z : Selected) → Shaped x y → Shaped y z → Shaped x z
  shaped_on x y z a b = record { levels = a.levels ∙ b.levels; named = named_on types (type_name types x) (type_name types y) (type_name types z) a.named b.named }

  shaped : (x y : Selected) → same_shape types x.definition.ty y.definition.ty ≡ true → Shaped x y
  shaped x y is =
      let parts = both_true (same_levels (shape types x) (shape types y)) (same_named types (type_name types x) (type_name types y)) is in
      record { levels = one_levels (shape types x) (shape types y) parts.0; named = named_of types (type_name types x) (type_name types y) parts.1 }

  -- types of one shape do not conflict
  shaped_whole : (x y : Selected) → Shaped x y → types_conflict types x y ≡ true → ⊥
  shaped_whole x y a is =
      let k : Bool = are_known types x.definition.ty y.definition.ty in
      let at_levels : same_levels (shape types x) (shape types y) ≡ true = ap (same_levels (shape types x)) (sym a.levels) ∙ levels_refl (shape types x) in
      let same : same_shape types x.definition.ty y.definition.ty ≡ true =
      ap (λ t. t && same_named types (type_name types x) (type_name types y)) at_levels ∙ named_holds types (type_name types x) (type_name types y) a.named in
      let parts = both_true k (not (same_shape types x.definition.ty y.definition.ty)) is in
      let h : false ≡ true = sym (ap not same) ∙ parts.1 in
      cc

  -- fields that agree do not differ
  agree_same : (x y : Selected) → Agree types x y → differ x y ≡ true → ⊥
  agree_same x y a is =
      let at_names : bytes_eq x.name.text y.name.text ≡ true = ap (bytes_eq x.name.text) (sym a.name) ∙ text_refl x.name.text in
      let same : differ x y ≡ false = ap (λ t. not t || not (same_arguments x.arguments y.arguments)) at_names ∙ ap not a.given in
      let h : false ≡ true = sym same ∙ is in
      cc

module _ (types : List ExtendedType) (fields : List Selected) (families : List ℕ) (are : AreShaped types fields families) where
  shaped_head : HasHead (Shaped types) fields families
  shaped_head a x at = inr (by_head (slice_get fields family) refl is)
    where
      family : ℕ
      family = class_of families a

      is : is_shaped_with types fields family x ≡ true
      is = sym (ap (λ o. option_map_or (is_shaped_with types fields family) o true) at) ∙ are a

      by_head : (o : Option Selected) → slice_get fields family ≡ o → option_map_or (λ (other : Selected). same_shape types x.definition.ty other.definition.ty) o false ≡ true
          → (z : Selected) × (slice_get fields family ≡ Some z) × Shaped types x z
      by_head None there holds = absurd cc
      by_head (Some z) there holds = (z, there, shaped types x z holds)

  pub shaped_within : (a : ℕ) → a < length fields → class_of families a < length fields
  shaped_within = within_by (Shaped types) (shaped_turned types) (shaped_on types) fields families shaped_head

  one_shape : (a b : ℕ) (x y : Selected) → slice_get fields a ≡ Some x → slice_get fields b ≡ Some y → class_of families a ≡ class_of families b → (a ≡ b) ⊎ Shaped types x y
  one_shape = one_by (Shaped types) (shaped_turned types) (shaped_on types) fields families shaped_head

module _ (types : List ExtendedType) (fields : List Selected) (families : List ℕ) (next : ℕ) (before : (a : ℕ) → a < next → is_shaped_at types fields families a ≡ true) where
  pub shaped_next : is_shaped_at types fields families next ≡ true → (a : ℕ) → a < next + 1 → is_shaped_at types fields families a ≡ true
  shaped_next is a low = elim (same_or_not a next) [
    | inl e ↦ ap (is_shaped_at types fields families) e ∙ is
    | inr apart ↦ before a (omega (arith, low, apart))
  ]

  pub shaped_all : length fields ≤ next → AreShaped types fields families
  shaped_all all a = by_field (slice_get fields a) refl
    where
      by_field : (o : Option Selected) → slice_get fields a ≡ o → is_shaped_at types fields families a ≡ true
      by_field None at = ap (λ o. option_map_or (is_shaped_with types fields (class_of families a)) o true) at
      by_field (Some x) at = before a (omega (arith, all, slice_get_within fields a x at))

-- ---- what stands on object types

module _ (types : List ExtendedType) (fields : List Selected) (families : List ℕ) (mixed : List Bool) where
  abbrev pub StandsAt : ℕ → Type 0
  StandsAt a = (is_mixed mixed (class_of families a) || is_on_object_at types fields a) ≡ true

  pub objects_next : (next : ℕ) → ((a : ℕ) → a < next → StandsAt a) → StandsAt next → (a : ℕ) → a < next + 1 → StandsAt a
  objects_next next before is a low = elim (same_or_not a next) [
    | inl e ↦ subst StandsAt (sym e) is
    | inr apart ↦ before a (omega (arith, low, apart))
  ]

  pub objects_all : (next : ℕ) → ((a : ℕ) → a < next → StandsAt a) → length fields ≤ next → AreOnObjects types fields families mixed
  objects_all next before all a = by_field (slice_get fields a) refl
    where
      or_true : (t : Bool) → (t || true) ≡ true
      or_true true = refl
      or_true false = refl

      by_field : (o : Option Selected) → slice_get fields a ≡ o → StandsAt a
      by_field None at = ap (λ o. is_mixed mixed (class_of families a) || option_map_or (is_on_object types) o true) at ∙ or_true (is_mixed mixed (class_of families a))
      by_field (Some x) at = before a (omega (arith, all, slice_get_within fields a x at))

-- ---- places

place_refl : (p : Place) → is_place p p ≡ true
place_refl p = ap (λ t. t && ((p.parent == p.parent) && same_mode p.is_mixed)) (eq-eqb p.key p.key refl) ∙ ap (λ t. t && same_mode p.is_mixed) (eq-eqb p.parent p.parent refl) ∙ by_mode p.is_mixed
  where
    same_mode : Bool → Bool
    same_mode m = beq m m

    by_mode : (m : Bool) → same_mode m ≡ true
    by_mode true = refl
    by_mode false = refl

unlike : (p : Place) (xs : List Place) → AllByRecursion (λ y. is_place p y ≡ false) xs → (j : ℕ) → slice_get xs j ≡ Some p → ⊥
unlike p [] all j at = cc
unlike p (x ∷ xs) all zero at =
    let e : x ≡ p = (let h : Some x ≡ Some p = at in cc) in
    let h : true ≡ false = sym (place_refl p) ∙ ap (is_place p) (sym e) ∙ all.0 in
    cc
unlike p (x ∷ xs) all (suc j) at = unlike p xs all.1 j at

-- each place is there once
one_place : (places : List Place) → IsDistinct is_place places → (i j : ℕ) (p : Place) → slice_get places i ≡ Some p → slice_get places j ≡ Some p → i ≡ j
one_place [] distinct i j p at_i at_j = absurd cc
one_place (x ∷ xs) distinct zero zero p at_i at_j = refl
one_place (x ∷ xs) distinct zero (suc j) p at_i at_j =
    let e : x ≡ p = (let h : Some x ≡ Some p = at_i in cc) in
    absurd (unlike x xs (IsDistinct-head is_place x xs distinct) j (at_j ∙ ap Some (sym e)))
one_place (x ∷ xs) distinct (suc i) zero p at_i at_j =
    let e : x ≡ p = (let h : Some x ≡ Some p = at_j in cc) in
    absurd (unlike x xs (IsDistinct-head is_place x xs distinct) i (at_i ∙ ap Some (sym e)))
one_place (x ∷ xs) distinct (suc i) (suc j) p at_i at_j = ap suc (one_place xs (IsDistinct-tail is_place x xs distinct) i j p at_i at_j)

abbrev placed_at : ℕ → ℕ → Bool → Place
placed_at key parent mixed = record { key = key; parent = parent; is_mixed = mixed }

module _ (types : List ExtendedType) (fields : List Selected) (families : List ℕ) (mixed : List Bool) (numbers : List ℕ) (count : ℕ)
    (on_objects : AreOnObjects types fields families mixed) (placed : ArePlaces types fields (key_numbers fields) families mixed numbers count) where
  abbrev keys : List ℕ
  keys = key_numbers fields

  on_object : (a : ℕ) (x : Selected) → slice_get fields a ≡ Some x → is_mixed mixed (class_of families a) ≡ false → is_object_name types x.parent.text ≡ true
  on_object a x at plain =
      sym (ap (λ t. t || is_object_name types x.parent.text) plain)
      ∙ sym (ap (λ o. is_mixed mixed (class_of families a) || option_map_or (is_on_object types) o true) at) ∙ on_objects a

  one_parent : (x y : Selected) → is_object_name types x.parent.text ≡ true → is_object_name types y.parent.text ≡ true → are_apart types x y ≡ false → x.parent.text ≡ y.parent.text
  one_parent x y is_x is_y apart = one_text x.parent.text y.parent.text (by_test (bytes_eq x.parent.text y.parent.text) refl)
    where
      by_test : (t : Bool) → bytes_eq x.parent.text y.parent.text ≡ t → t ≡ true
      by_test true is = refl
      by_test false is = absurd (
          let e : are_apart types x y ≡ true = ap (λ t. not t && (is_object_name types x.parent.text && is_object_name types y.parent.text)) is
          ∙ ap (λ t. t && is_object_name types y.parent.text) is_x ∙ is_y in
          let h : true ≡ false = sym e ∙ apart in
          cc)

  -- two fields of one response key and one family, which one object can have, have one place
  same_place : (a b k : ℕ) (x y : Selected) → slice_get fields a ≡ Some x → slice_get fields b ≡ Some y → slice_get keys a ≡ Some k → slice_get keys b ≡ Some k
      → class_of families a ≡ class_of families b → are_apart types x y ≡ false → place_of types fields keys families mixed a ≡ place_of types fields keys families mixed b
  same_place a b k x y at_x at_y key_a key_b one apart = by_mixed (is_mixed mixed (class_of families a)) refl
    where
      one_key : class_of keys a ≡ class_of keys b
      one_key = ap (λ o. unwrap_or o a) key_a ∙ sym (ap (λ o. unwrap_or o b) key_b)

      parent_at : (c : ℕ) (z : Selected) → slice_get fields c ≡ Some z → parent_number types fields c ≡ type_number types z
      parent_at c z at = ap (λ o. option_map_or (type_number types) o 0) at

      number_of : List ℕ → ℕ
      number_of text = unwrap_or (position (is_called name_of text) types) 0

      by_place : (m : Bool) → is_mixed mixed (class_of families a) ≡ m → place_in types fields keys m a ≡ place_in types fields keys m b
      by_place true is = ap (λ n. placed_at n 0 true) one_key
      by_place false is =
          let texts = one_parent x y (on_object a x at_x is) (on_object b y at_y (ap (is_mixed mixed) (sym one) ∙ is)) apart in
          let one_number : parent_number types fields a ≡ parent_number types fields b = parent_at a x at_x ∙ ap number_of texts ∙ sym (parent_at b y at_y) in
          ap (λ n. placed_at n (parent_number types fields a) false) one_key ∙ ap (λ n. placed_at (class_of keys b) n false) one_number

      by_mixed : (m : Bool) → is_mixed mixed (class_of families a) ≡ m → place_of types fields keys families mixed a ≡ place_of types fields keys families mixed b
      by_mixed m is =
          ap (λ t. place_in types fields keys t a) is ∙ by_place m is ∙ ap (λ t. place_in types fields keys t b) (sym is ∙ ap (is_mixed mixed) one)

  record OneNumber (a b : ℕ) : Type 0 where
    number : ℕ
    first : slice_get numbers a ≡ Some number
    second : slice_get numbers b ≡ Some number

  one_number : (a b k : ℕ) (x y : Selected) → slice_get fields a ≡ Some x → slice_get fields b ≡ Some y → slice_get keys a ≡ Some k → slice_get keys b ≡ Some k
      → class_of families a ≡ class_of families b → are_apart types x y ≡ false → OneNumber a b
  one_number a b k x y at_x at_y key_a key_b one apart =
      let n = got_within numbers a (omega (arith, placed.as_many, slice_get_within fields a x at_x)) in
      let m = got_within numbers b (omega (arith, placed.as_many, slice_get_within fields b y at_y)) in
      let e = same_place a b k x y at_x at_y key_a key_b one apart in
      let same : n.0 ≡ m.0 = one_place placed.places placed.distinct n.0 m.0 (place_of types fields keys families mixed a) (placed.at a n.0 n.1) (placed.at b m.0 m.1 ∙ ap Some (sym e)) in
      record { number = n.0; first = n.1; second = m.1 ∙ ap Some (sym same) }

pub numbers_within : (types : List ExtendedType) (fields : List Selected) (keys families : List ℕ) (mixed : List Bool) (numbers : List ℕ) (count : ℕ)
    → ArePlaces types fields keys families mixed numbers count → (a n : ℕ) → slice_get numbers a ≡ Some n → n < count
numbers_within types fields keys families mixed numbers count placed a n is =
    omega (arith, placed.counted, slice_get_within placed.places n (place_of types fields keys families mixed a) (placed.at a n is))

-- ---- what is compared in full

record GoesOn (types : List ExtendedType) (fields : List Selected) (above : Pair) : Type 0 where
  one : Selected
  other : Selected
  at_one : slice_get fields above.first ≡ Some one
  at_other : slice_get fields above.second ≡ Some other
  full : above.in_full ≡ true
  together : are_apart types one other ≡ false

-- a pair below which pairs are compared in full is so too, and no two objects have its fields
goes_on : (types : List ExtendedType) (fields : List Selected) (above : Pair) → below types fields above ≡ Some true → GoesOn types fields above
goes_on types fields above goes = by_first (slice_get fields above.first) refl
  where
    by_broken : (x y : Selected) → slice_get fields above.first ≡ Some x → slice_get fields above.second ≡ Some y → (t : Bool) → is_broken types above.in_full x y ≡ t
        → cond t None (Some (above.in_full && not (are_apart types x y))) ≡ Some true → GoesOn types fields above
    by_broken x y at_x at_y true broken is = absurd cc
    by_broken x y at_x at_y false broken is =
        let e : (above.in_full && not (are_apart types x y)) ≡ true = (let h : Some (above.in_full && not (are_apart types x y)) ≡ Some true = is in cc) in
        let parts = both_true above.in_full (not (are_apart types x y)) e in
        record { one = x; other = y; at_one = at_x; at_other = at_y; full = parts.0; together = not-false (are_apart types x y) parts.1 }

    by_second : (x : Selected) → slice_get fields above.first ≡ Some x → (o : Option Selected) → slice_get fields above.second ≡ o → GoesOn types fields above
    by_second x at_x None at_y =
        absurd (
        let e : below types fields above ≡ None = ap (λ o. option_and_then (λ one. option_and_then (below_fields types above.in_full one) (slice_get fields above.second)) o) at_x
        ∙ ap (option_and_then (below_fields types above.in_full x)) at_y in
        let h : None ≡ Some true = sym e ∙ goes in
        cc)
    by_second x at_x (Some y) at_y =
        let whole = sym (below_at types fields above x y at_x at_y) ∙ goes in
        by_broken x y at_x at_y (is_broken types above.in_full x y) refl whole

    by_first : (o : Option Selected) → slice_get fields above.first ≡ o → GoesOn types fields above
    by_first None at_x =
        absurd (
        let e : below types fields above ≡ None = ap (λ o. option_and_then (λ one. option_and_then (below_fields types above.in_full one) (slice_get fields above.second)) o) at_x in
        let h : None ≡ Some true = sym e ∙ goes in
        cc)
    by_first (Some x) at_x = by_second x at_x (slice_get fields above.second) refl

module _ (types : List ExtendedType) (document : Numbered) (families : List ℕ) (rows : List (List ℕ)) (mixed : List Bool) (numbers : List ℕ) (count : ℕ)
    (groups : List ℕ) (group_rows : List (List ℕ)) (are_shaped : AreShaped types document.fields families) (gathered : IsGathered document families rows)
    (explored : IsExplored (sets_over types document rows (key_numbers document.fields)) families []) (on_objects : AreOnObjects types document.fields families mixed)
    (placed : ArePlaces types document.fields (key_numbers document.fields) families mixed numbers count) (are_agreed : AreAgreed types document.fields groups)
    (group_gathered : IsGathered document groups group_rows) (group_explored : IsExplored (sets_over types document group_rows numbers) groups []) where
  abbrev held : List Selected
  held = document.fields

  -- fields that are compared in full, and that one object can have, are of one group
  one_group : {p : Pair} → IsCompared (sets_of types document) p → p.in_full ≡ true → (x y : Selected) → slice_get held p.first ≡ Some x → slice_get held p.second ≡ Some y
      → are_apart types x y ≡ false → class_of groups p.first ≡ class_of groups p.second
  one_group {p} (in_set is pair full) in_full x y at_x at_y apart =
      let n = one_number types held families mixed numbers count on_objects placed p.first p.second pair.alike.key x y at_x at_y pair.alike.first_key pair.alike.second_key
      (one_family types document families rows gathered explored (in_set is pair full)) apart in
      met_in_set types document groups group_rows numbers group_gathered group_explored placed.as_many is p.first p.second n.number pair.alike.first pair.alike.second n.first n.second
  one_group {p} (under {above = above} is goes pair) in_full x y at_x at_y apart =
      let n = one_number types held families mixed numbers count on_objects placed p.first p.second pair.alike.key x y at_x at_y pair.alike.first_key pair.alike.second_key
      (one_family types document families rows gathered explored (under is goes pair)) apart in
      let up = goes_on types held above (goes ∙ ap Some in_full) in
      let one = one_group is up.full up.one up.other up.at_one up.at_other up.together in
      met_below types document groups group_rows numbers group_gathered group_explored placed.as_many above.first above.second one
      p.first p.second n.number pair.alike.first pair.alike.second n.first n.second

  holds_not : (p : Pair) → IsCompared (sets_of types document) p → p.first < p.second → (x : Found held p.first) (y : Found held p.second)
      → below types held p ≡ None → ⊥
  holds_not p is ordered x y breaks = by_broken (is_broken types p.in_full x.it y.it) refl (sym (below_at types held p x.it y.it x.at y.at) ∙ breaks)
    where
      by_differ : ((p.in_full && not (are_apart types x.it y.it)) && differ x.it y.it) ≡ true → ⊥
      by_differ holds =
          let parts = both_true (p.in_full && not (are_apart types x.it y.it)) (differ x.it y.it) holds in
          let mode = both_true p.in_full (not (are_apart types x.it y.it)) parts.0 in
          let one = one_group is mode.0 x.it y.it x.at y.at (not-false (are_apart types x.it y.it) mode.1) in
          elim (of_one_family types held groups are_agreed p.first p.second x.it y.it x.at y.at one) [
            | inl e ↦ omega (arith, e, ordered)
            | inr a ↦ agree_same types x.it y.it a parts.1
          ]

      by_types : types_conflict types x.it y.it ≡ true → ⊥
      by_types holds =
          elim (one_shape types held families are_shaped p.first p.second x.it y.it x.at y.at (one_family types document families rows gathered explored is)) [
            | inl e ↦ omega (arith, e, ordered)
            | inr a ↦ shaped_whole types x.it y.it a holds
          ]

      by_broken : (t : Bool) → is_broken types p.in_full x.it y.it ≡ t → cond t None (Some (p.in_full && not (are_apart types x.it y.it))) ≡ None → ⊥
      by_broken false broken none = (let h : Some (p.in_full && not (are_apart types x.it y.it)) ≡ None = none in cc)
      by_broken true broken none =
          elim (either_true (types_conflict types x.it y.it) ((p.in_full && not (are_apart types x.it y.it)) && differ x.it y.it) broken) [
            | inl holds ↦ by_types holds
            | inr holds ↦ by_differ holds
          ]

  pub none_break_by_objects : NoneBreaks types document
  none_break_by_objects = none_by types document holds_not

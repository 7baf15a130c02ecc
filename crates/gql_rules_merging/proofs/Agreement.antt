-- Where each field agrees with the one that its family is called after, and none meets one of another family, no pair breaks the rule.
use Rattle.std.proofs.Common.{◌≡◌, ◌⊎◌, inl, inr, ℕ, zero, suc, ◌<◌, ◌≤◌, ◌+◌, Bool, true, false, not, cond, ◌&&◌, ◌||◌, ◌==◌, Option, Some, None, List, [], ◌∷◌, ◌++◌, length, refl, sym, ap, ◌∙◌, subst, arith}
use Rattle.std.specs.List.{Contains, slice_get}
use Rattle.std.specs.Option.{option_map_or, option_and_then, option_map}
use Rattle.std.specs.Str.{bytes_eq}
use Rattle.std.proofs.lemmas.Bool.{eqb-true}
use Rattle.std.proofs.lemmas.List.Elements.{Contains-append_right, Contains-append_cases}
use Rattle.std.proofs.lemmas.Option.{slice_get_within, slice_get-map}
use Rattle.gql_ast_base.specs.TypeParts.{named_type}
use Rattle.gql_graph.proofs.Flooded.{none_contained, same_or_not}
use Rattle.gql_graph.specs.Graph.{Graph}
use Rattle.gql_graph.specs.bridge.Explored.{class_of, IsMet, same, other, IsExplored}
use Rattle.gql_graph.specs.Pairs.{Sets, IsField, IsSet, of_operation, of_fragment, of_field, IsCompared, in_set, below as under}
use Rattle.gql_graph.specs.declared.pair.Pair.{Pair}
use Rattle.gql_schema_types.specs.declared.types.ExtendedType.{ExtendedType}
use Rattle.gql_rules_merging.proofs.Pairing.{got_within}
use Rattle.gql_rules_merging.proofs.SmallFacts.{length_map}
use Rattle.gql_rules_merging.proofs.SameArguments.{arguments_on}
use Rattle.gql_rules_merging.proofs.Truths.{both_true, either_true, one_text, text_refl, one_levels, levels_refl, one_got}
use Rattle.gql_rules_merging.specs.ConflictingFieldArgument.{same_arguments}
use Rattle.gql_rules_merging.specs.ConflictingFieldType.{levels, same_levels, same_named, same_shape, is_composite_name, are_known}
use Rattle.gql_rules_merging.specs.bridge.Families.{agree, agrees_with, is_agreed, is_agreed_at, AreAgreed, row_of, IsGathered, sets_over}
use Rattle.gql_rules_merging.specs.FieldSelectionMerging.{below, below_fields, is_broken, are_apart, differ, items, sets_of}
use Rattle.gql_rules_merging.specs.Numbering.{Selected, Numbered}
use Rattle.gql_rules_merging.specs.ResponseKeys.{key_number, key_numbers}
use Rattle.gql_rules_merging.specs.bridge.Telling.{NoneBreaks}

-- ---- agreement

pub not-false : (t : Bool) → not t ≡ true → t ≡ false
not-false true is = absurd cc
not-false false is = refl

pub not-true : (t : Bool) → not t ≡ false → t ≡ true
not-true true is = refl
not-true false is = absurd cc

pub neither : (a b : Bool) → (a || b) ≡ false → (a ≡ false) × (b ≡ false)
neither true b is = absurd cc
neither false b is = (refl, is)

module _ (types : List ExtendedType) where
  -- the same name, or names of types that have fields
  abbrev pub SameNamed : List ℕ → List ℕ → Type 0
  SameNamed t u = (t ≡ u) ⊎ ((is_composite_name types t ≡ true) × (is_composite_name types u ≡ true))

  pub named_turned : (t u : List ℕ) → SameNamed t u → SameNamed u t
  named_turned t u (inl e) = inl (sym e)
  named_turned t u (inr s) = inr (s.1, s.0)

  pub named_on : (t u v : List ℕ) → SameNamed t u → SameNamed u v → SameNamed t v
  named_on t u v (inl e) s = subst (λ n. SameNamed n v) (sym e) s
  named_on t u v (inr s) (inl e) = subst (SameNamed t) e (inr s)
  named_on t u v (inr s) (inr r) = inr (s.0, r.1)

  pub named_holds : (t u : List ℕ) → SameNamed t u → same_named types t u ≡ true
  named_holds t u (inl e) = ap (λ b. b || (is_composite_name types t && is_composite_name types u)) (ap (bytes_eq t) (sym e) ∙ text_refl t)
  named_holds t u (inr s) = by_test (bytes_eq t u)
    where
      by_test : (b : Bool) → (b || (is_composite_name types t && is_composite_name types u)) ≡ true
      by_test true = refl
      by_test false = ap (λ c. c && is_composite_name types u) s.0 ∙ s.1

  abbrev pub type_name : Selected → List ℕ
  type_name x = (named_type x.definition.ty).text

  abbrev pub shape : Selected → List Bool
  shape x = levels x.definition.ty

  -- two fields that agree
  pub record Agree (x y : Selected) : Type 0 where
    pub shape : shape x ≡ shape y
    pub named : SameNamed (type_name x) (type_name y)
    pub name : x.name.text ≡ y.name.text
    pub given : same_arguments x.arguments y.arguments ≡ true
    pub back : same_arguments y.arguments x.arguments ≡ true

  pub agree_turned : (x y : Selected) → Agree x y → Agree y x
  agree_turned x y a = record { shape = sym a.shape; named = named_turned (type_name x) (type_name y) a.named; name = sym a.name; given = a.back; back = a.given }

  pub agree_on : (x y z : Selected) → Agree x y → Agree y z → Agree x z
  agree_on x y z a b = record {
    shape = a.shape ∙ b.shape;
    named = named_on (type_name x) (type_name y) (type_name z) a.named b.named;
    name = a.name ∙ b.name;
    given = arguments_on x.arguments y.arguments z.arguments a.given b.given;
    back = arguments_on z.arguments y.arguments x.arguments b.back a.back;
  }

  pub named_of : (t u : List ℕ) → same_named types t u ≡ true → SameNamed t u
  named_of t u is = elim (either_true (bytes_eq t u) (is_composite_name types t && is_composite_name types u) is) [
    | inl e ↦ inl (one_text t u e)
    | inr s ↦ inr (both_true (is_composite_name types t) (is_composite_name types u) s)
  ]

  agreed : (x y : Selected) → agree types x y ≡ true → Agree x y
  agreed x y is =
      let parts = both_true (same_shape types x.definition.ty y.definition.ty) (not (differ x y) && not (differ y x)) is in
      let ways = both_true (not (differ x y)) (not (differ y x)) parts.1 in
      let shapes = both_true (same_levels (shape x) (shape y)) (same_named types (type_name x) (type_name y)) parts.0 in
      let there = neither (not (bytes_eq x.name.text y.name.text)) (not (same_arguments x.arguments y.arguments)) (not-false (differ x y) ways.0) in
      let back = neither (not (bytes_eq y.name.text x.name.text)) (not (same_arguments y.arguments x.arguments)) (not-false (differ y x) ways.1) in
      record {
        shape = one_levels (shape x) (shape y) shapes.0;
        named = named_of (type_name x) (type_name y) shapes.1;
        name = one_text x.name.text y.name.text (not-true (bytes_eq x.name.text y.name.text) there.0);
        given = not-true (same_arguments x.arguments y.arguments) there.1;
        back = not-true (same_arguments y.arguments x.arguments) back.1;
      }

  -- fields that agree do not break the rule
  agree_whole : (m : Bool) (x y : Selected) → Agree x y → is_broken types m x y ≡ false
  agree_whole m x y a =
      let r : Bool = m && not (are_apart types x y) in
      let k : Bool = are_known types x.definition.ty y.definition.ty in
      let at_levels : same_levels (shape x) (shape y) ≡ true = ap (same_levels (shape x)) (sym a.shape) ∙ levels_refl (shape x) in
      let at_names : bytes_eq x.name.text y.name.text ≡ true = ap (bytes_eq x.name.text) (sym a.name) ∙ text_refl x.name.text in
      ap (λ t. (k && not (t && same_named types (type_name x) (type_name y))) || (r && (not (bytes_eq x.name.text y.name.text) || not (same_arguments x.arguments y.arguments)))) at_levels
      ∙ ap (λ t. (k && not t) || (r && (not (bytes_eq x.name.text y.name.text) || not (same_arguments x.arguments y.arguments)))) (named_holds (type_name x) (type_name y) a.named)
      ∙ ap (λ t. t || (r && (not (bytes_eq x.name.text y.name.text) || not (same_arguments x.arguments y.arguments)))) (and_none k)
      ∙ ap (λ t. r && (not t || not (same_arguments x.arguments y.arguments))) at_names
      ∙ ap (λ t. r && not t) a.given
      ∙ and_none r
    where
      and_none : (b : Bool) → (b && false) ≡ false
      and_none true = refl
      and_none false = refl

-- ---- the fields of a document

pub record Found (fields : List Selected) (a : ℕ) : Type 0 where
  pub it : Selected
  pub at : slice_get fields a ≡ Some it

pub found_at : (fields : List Selected) (a k : ℕ) → slice_get (key_numbers fields) a ≡ Some k → Found fields a
found_at fields a k is = by_field (slice_get fields a) refl
  where
    by_field : (o : Option Selected) → slice_get fields a ≡ o → Found fields a
    by_field None at = absurd (let h : Some k ≡ None = sym is ∙ slice_get-map (key_number fields) fields a ∙ ap (option_map (key_number fields)) at in cc)
    by_field (Some x) at = record { it = x; at = at }

-- a field is the one that its family is called after, or is to that one as it should be
abbrev pub HasHead : (Selected → Selected → Type 0) → List Selected → List ℕ → Type 0
HasHead R fields families = (a : ℕ) (x : Selected) → slice_get fields a ≡ Some x
    → (class_of families a ≡ a) ⊎ ((z : Selected) × (slice_get fields (class_of families a) ≡ Some z) × R x z)

module _ (R : Selected → Selected → Type 0) (turned : (x y : Selected) → R x y → R y x) (on : (x y z : Selected) → R x y → R y z → R x z)
    (fields : List Selected) (families : List ℕ) (head : HasHead R fields families) where
  pub within_by : (a : ℕ) → a < length fields → class_of families a < length fields
  within_by a within =
      let x = got_within fields a within in
      elim (head a x.0 x.1) [
        | inl e ↦ subst (λ n. n < length fields) (sym e) within
        | inr h ↦ slice_get_within fields (class_of families a) h.0 h.1
      ]

  -- two fields of one family are to each other as each is to its head
  pub one_by : (a b : ℕ) (x y : Selected) → slice_get fields a ≡ Some x → slice_get fields b ≡ Some y → class_of families a ≡ class_of families b → (a ≡ b) ⊎ R x y
  one_by a b x y at_a at_b one = by_heads (head a x at_a) (head b y at_b)
    where
      by_heads : (class_of families a ≡ a) ⊎ ((z : Selected) × (slice_get fields (class_of families a) ≡ Some z) × R x z)
          → (class_of families b ≡ b) ⊎ ((z : Selected) × (slice_get fields (class_of families b) ≡ Some z) × R y z)
          → (a ≡ b) ⊎ R x y
      by_heads (inl e) (inl f) = inl (sym e ∙ one ∙ f)
      by_heads (inl e) (inr q) =
          let z_is_x = one_got fields a q.0 x (ap (slice_get fields) (sym e ∙ one) ∙ q.1) at_a in
          inr (turned y x (subst (R y) z_is_x q.2))
      by_heads (inr p) (inl f) =
          let z_is_y = one_got fields b p.0 y (ap (slice_get fields) (sym (one ∙ f)) ∙ p.1) at_b in
          inr (subst (R x) z_is_y p.2)
      by_heads (inr p) (inr q) =
          let same_head = one_got fields (class_of families b) p.0 q.0 (ap (slice_get fields) (sym one) ∙ p.1) q.1 in
          inr (on x q.0 y (subst (R x) same_head p.2) (turned y q.0 q.2))

module _ (types : List ExtendedType) (fields : List Selected) (families : List ℕ) (are : AreAgreed types fields families) where
  -- a field is the one that its family is called after, or agrees with that one
  head : HasHead (Agree types) fields families
  head a x at = by_either (either_true (a == family) (agrees_with types fields family x) is)
    where
      family : ℕ
      family = class_of families a

      is : is_agreed types fields family a x ≡ true
      is = sym (ap (λ o. option_map_or (is_agreed types fields family a) o true) at) ∙ are a

      by_head : (o : Option Selected) → slice_get fields family ≡ o → option_map_or (agree types x) o false ≡ true
          → (z : Selected) × (slice_get fields family ≡ Some z) × Agree types x z
      by_head None there holds = absurd cc
      by_head (Some z) there holds = (z, there, agreed types x z holds)

      by_either : ((a == family) ≡ true) ⊎ (agrees_with types fields family x ≡ true)
          → (class_of families a ≡ a) ⊎ ((z : Selected) × (slice_get fields (class_of families a) ≡ Some z) × Agree types x z)
      by_either (inl e) = inl (sym (eqb-true a family e))
      by_either (inr holds) = inr (by_head (slice_get fields family) refl holds)

  pub families_within : (a : ℕ) → a < length fields → class_of families a < length fields
  families_within = within_by (Agree types) (agree_turned types) (agree_on types) fields families head

  -- two fields of one family agree
  pub of_one_family : (a b : ℕ) (x y : Selected) → slice_get fields a ≡ Some x → slice_get fields b ≡ Some y → class_of families a ≡ class_of families b
      → (a ≡ b) ⊎ Agree types x y
  of_one_family = one_by (Agree types) (agree_turned types) (agree_on types) fields families head

-- ---- rows

among_row : (rows : List (List ℕ)) (number item : ℕ) → Contains (row_of rows number) item → Contains rows (row_of rows number)
among_row [] number item c = absurd (none_contained item c)
among_row (row ∷ rows) zero item c = (0, omega arith, refl)
among_row (row ∷ rows) (suc number) item c = Contains-append_right (row ∷ []) rows (row_of rows number) (among_row rows number item c)

-- families for numbers of fields, be they those of response keys or others
module _ (types : List ExtendedType) (document : Numbered) (families : List ℕ) (rows : List (List ℕ)) (keys : List ℕ)
    (gathered : IsGathered document families rows) (explored : IsExplored (sets_over types document rows keys) families [])
    (as_many : length keys ≡ length document.fields) where
  abbrev g : Graph
  g = document.fragments

  abbrev fields : List Selected
  fields = document.fields

  abbrev s : Sets
  s = sets_of types document

  unmet : (m : Bool) (a b : ℕ) → IsMet families [] m a b → class_of families a ≡ class_of families b
  unmet m a b (same one) = one
  unmet m a b (other c d e f is) = absurd (none_contained _ is)

  set_over : {set : List ℕ} → IsSet s set → IsSet (sets_over types document rows keys) set
  set_over {set} (of_operation c) = of_operation (gathered.operations set c)
  set_over {set} (of_fragment c) = of_fragment c
  set_over {set} (of_field a within) = of_field a (omega (arith, within, as_many, length_map (key_number fields) fields))

  -- the row of the family of the two above
  in_row : (a x : ℕ) → IsField g (items fields a) x → IsField g (row_of rows (class_of families a)) x
  in_row a x field = (field.0, gathered.selected a field.0 field.1, field.2)

  either_set : (is js : List ℕ) (x : ℕ) → IsField g (is ++ js) x → IsField g is x ⊎ IsField g js x
  either_set is js x field = elim (Contains-append_cases is js field.0 field.1) [ inl c ↦ inl (field.0, c, field.2) | inr c ↦ inr (field.0, c, field.2) ]

  -- fields of one set that have one number are of one family
  pub met_in_set : {set : List ℕ} → IsSet s set → (a b k : ℕ) → IsField g set a → IsField g set b → slice_get keys a ≡ Some k → slice_get keys b ≡ Some k
      → class_of families a ≡ class_of families b
  met_in_set {set} is a b k in_a in_b key_a key_b =
      unmet true a b (explored.in_sets set (set_over is) a b (record { first = in_a; second = in_b; key = k; first_key = key_a; second_key = key_b }))

  -- and so are those of the sets below two fields of one family
  pub met_below : (u v : ℕ) → class_of families u ≡ class_of families v → (a b k : ℕ) → IsField g (items fields u ++ items fields v) a → IsField g (items fields u ++ items fields v) b
      → slice_get keys a ≡ Some k → slice_get keys b ≡ Some k → class_of families a ≡ class_of families b
  met_below u v one a b k in_a in_b key_a key_b =
      let row : List ℕ = row_of rows (class_of families u) in
      let into : (x : ℕ) → IsField g (items fields u ++ items fields v) x → IsField g row x = λ x field.
      elim (either_set (items fields u) (items fields v) x field) [
        | inl f ↦ in_row u x f
        | inr f ↦ subst (λ n. IsField g (row_of rows n) x) (sym one) (in_row v x f)
      ] in
      let first = into a in_a in
      unmet true a b
      (explored.in_sets row (of_operation (among_row rows (class_of families u) first.0 first.1)) a b
      (record { first = first; second = into b in_b; key = k; first_key = key_a; second_key = key_b }))

module _ (types : List ExtendedType) (document : Numbered) (families : List ℕ) (rows : List (List ℕ))
    (gathered : IsGathered document families rows)
    (explored : IsExplored (sets_over types document rows (key_numbers document.fields)) families []) where
  abbrev held : List Selected
  held = document.fields

  -- compared fields are of one family
  pub one_family : {p : Pair} → IsCompared (sets_of types document) p → class_of families p.first ≡ class_of families p.second
  one_family {p} (in_set is pair full) =
      met_in_set types document families rows (key_numbers held) gathered explored (length_map (key_number held) held) is p.first p.second pair.alike.key
      pair.alike.first pair.alike.second pair.alike.first_key pair.alike.second_key
  one_family {p} (under {above = above} is goes pair) =
      met_below types document families rows (key_numbers held) gathered explored (length_map (key_number held) held) above.first above.second (one_family is)
      p.first p.second pair.alike.key pair.alike.first pair.alike.second pair.alike.first_key pair.alike.second_key

pub below_at : (types : List ExtendedType) (fields : List Selected) (p : Pair) (x y : Selected) → slice_get fields p.first ≡ Some x → slice_get fields p.second ≡ Some y
    → below types fields p ≡ below_fields types p.in_full x y
below_at types fields p x y first second =
    ap (λ o. option_and_then (λ one. option_and_then (below_fields types p.in_full one) (slice_get fields p.second)) o) first ∙ ap (option_and_then (below_fields types p.in_full x)) second

-- two fields of a compared pair, which are there
pub none_by : (types : List ExtendedType) (document : Numbered)
    → ((p : Pair) → IsCompared (sets_of types document) p → p.first < p.second → (x : Found document.fields p.first) (y : Found document.fields p.second)
    → below types document.fields p ≡ None → ⊥)
    → NoneBreaks types document
none_by types document breaks_not p (in_set set pair full) breaks =
    breaks_not p (in_set set pair full) pair.ordered (found_at document.fields p.first pair.alike.key pair.alike.first_key)
    (found_at document.fields p.second pair.alike.key pair.alike.second_key) breaks
none_by types document breaks_not p (under is goes pair) breaks =
    breaks_not p (under is goes pair) pair.ordered (found_at document.fields p.first pair.alike.key pair.alike.first_key)
    (found_at document.fields p.second pair.alike.key pair.alike.second_key) breaks

module _ (types : List ExtendedType) (document : Numbered) (families : List ℕ) (rows : List (List ℕ))
    (are : AreAgreed types document.fields families) (gathered : IsGathered document families rows)
    (explored : IsExplored (sets_over types document rows (key_numbers document.fields)) families []) where
  breaks_not : (p : Pair) → IsCompared (sets_of types document) p → p.first < p.second → (x : Found document.fields p.first) (y : Found document.fields p.second)
      → below types document.fields p ≡ None → ⊥
  breaks_not p is ordered x y breaks =
      elim (of_one_family types document.fields families are p.first p.second x.it y.it x.at y.at (one_family types document families rows gathered explored is)) [
        | inl e ↦ omega (arith, e, ordered)
        | inr a ↦ (
            let whole : is_broken types p.in_full x.it y.it ≡ false = agree_whole types p.in_full x.it y.it a in
            let goes : below_fields types p.in_full x.it y.it ≡ Some (p.in_full && not (are_apart types x.it y.it)) = ap (λ t. cond t None (Some (p.in_full && not (are_apart types x.it y.it)))) whole in
            let h : Some (p.in_full && not (are_apart types x.it y.it)) ≡ None = sym goes ∙ sym (below_at types document.fields p x.it y.it x.at y.at) ∙ breaks in
            cc)
      ]

  pub none_break : NoneBreaks types document
  none_break = none_by types document breaks_not

-- ---- what the steps leave

pub none_met : (types : List ExtendedType) (document : Numbered) (fields : List Selected) (keys families : List ℕ) (rows : List (List ℕ)) (found pairs : List Pair) → fields ≡ document.fields
    → pairs ≡ found → length pairs ≡ 0
    → IsExplored (record { fragments = document.fragments; operations = rows; items = items fields; keys = keys; below = below types fields }) families found
    → IsExplored (sets_over types document rows keys) families []
none_met types document fields keys families rows found pairs same_fields same_pairs empty explored =
    subst (λ f. IsExplored (sets_over types document rows keys) families f) (sym same_pairs ∙ none_of pairs empty)
    (subst (λ fs. IsExplored (record { fragments = document.fragments; operations = rows; items = items fs; keys = keys; below = below types fs }) families found) same_fields explored)
  where
    none_of : (ps : List Pair) → length ps ≡ 0 → ps ≡ []
    none_of [] empty = refl
    none_of (p ∷ ps) empty = absurd (omega (arith, empty))

module _ (types : List ExtendedType) (fields : List Selected) (families : List ℕ) (next : ℕ) (before : (a : ℕ) → a < next → is_agreed_at types fields families a ≡ true) where
  pub agreed_on : is_agreed_at types fields families next ≡ true → (a : ℕ) → a < next + 1 → is_agreed_at types fields families a ≡ true
  agreed_on is a low = elim (same_or_not a next) [
    | inl e ↦ ap (is_agreed_at types fields families) e ∙ is
    | inr apart ↦ before a (omega (arith, low, apart))
  ]

  pub agreed_all : length fields ≤ next → AreAgreed types fields families
  agreed_all all a = by_field (slice_get fields a) refl
    where
      by_field : (o : Option Selected) → slice_get fields a ≡ o → is_agreed_at types fields families a ≡ true
      by_field None at = ap (λ o. option_map_or (is_agreed types fields (class_of families a) a) o true) at
      by_field (Some x) at = before a (omega (arith, all, slice_get_within fields a x at))

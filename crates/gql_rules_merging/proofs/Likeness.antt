-- Fields that differ in their places alone: what they select, and what they conflict with.
use Rattle.std.proofs.Common.{◌≡◌, ◌⊎◌, inl, inr, ℕ, ◌+◌, ◌-◌, ◌<◌, ◌≤◌, Bool, true, false, not, ◌&&◌, ◌||◌, ◌==◌, List, [], ◌∷◌, length, refl, sym, ap, ◌∙◌, subst, arith}
use Rattle.std.specs.List.{Contains}
use Rattle.std.specs.Prelude.{nat_le, nat_lt}
use Rattle.std.specs.Str.{bytes_eq}
use Rattle.std.proofs.lemmas.Bool.{eqb-true, leb-true, ltb-true}
use Rattle.std.proofs.lemmas.List.Elements.{Contains-append_right}
use Rattle.gql_ast_base.specs.declared.directive.Argument.{Argument}
use Rattle.gql_ast_base.specs.TypeParts.{named_type}
use Rattle.gql_graph.proofs.Flooded.{Contains-cons_cases, none_contained}
use Rattle.gql_graph.proofs.Walks.{from_node}
use Rattle.gql_graph.specs.Cycles.{Reaches, at_once, along}
use Rattle.gql_graph.specs.Graph.{Graph}
use Rattle.gql_graph.specs.bridge.Explored.{class_of}
use Rattle.gql_graph.specs.Pairs.{IsField}
use Rattle.gql_schema_types.specs.declared.types.ExtendedType.{ExtendedType}
use Rattle.gql_rules_merging.proofs.SameArguments.{arguments_on}
use Rattle.gql_rules_merging.proofs.Truths.{both_true, either_true, one_text, text_refl, text_turned, one_levels, levels_refl}
use Rattle.gql_rules_merging.specs.bridge.Classes.{same_both_ways, same_head, has_class, same_item, same_items, is_like}
use Rattle.gql_rules_merging.specs.ConflictingFieldArgument.{same_arguments}
use Rattle.gql_rules_values.specs.Known.{is_known}
use Rattle.gql_rules_merging.specs.ConflictingFieldType.{levels, same_levels, same_named, is_composite_name, are_known, types_conflict}
use Rattle.gql_rules_merging.specs.FieldSelectionMerging.{is_broken, are_apart, is_object_name}
use Rattle.gql_rules_merging.specs.Numbering.{Selected}
use Rattle.gql_rules_merging.specs.ResponseKeys.{key_of}

-- ---- arguments

-- the same list, or each has the arguments of the other
abbrev pub SameGiven : List Argument → List Argument → Type 0
SameGiven a b = (a ≡ b) ⊎ ((same_arguments a b ≡ true) × (same_arguments b a ≡ true))

given_turned : (a b : List Argument) → SameGiven a b → SameGiven b a
given_turned a b (inl e) = inl (sym e)
given_turned a b (inr s) = inr (s.1, s.0)

given_on : (a b c : List Argument) → SameGiven a b → SameGiven b c → SameGiven a c
given_on a b c (inl e) t = subst (λ l. SameGiven l c) (sym e) t
given_on a b c (inr s) (inl e) = subst (SameGiven a) e (inr s)
given_on a b c (inr s) (inr t) = inr (arguments_on a b c s.0 t.0, arguments_on c b a t.1 s.1)

equal_tests : (t u : Bool) → (t ≡ true → u ≡ true) → (u ≡ true → t ≡ true) → t ≡ u
equal_tests true u to back = sym (to refl)
equal_tests false true to back = back refl
equal_tests false false to back = refl

-- such arguments are the same as the same others
pub given_alike : (a b c d : List Argument) → SameGiven a c → SameGiven b d → same_arguments a b ≡ same_arguments c d
given_alike a b c d s t = first s ∙ second t
  where
    first : SameGiven a c → same_arguments a b ≡ same_arguments c b
    first (inl e) = ap (λ l. same_arguments l b) e
    first (inr s) = equal_tests (same_arguments a b) (same_arguments c b) (arguments_on c a b s.1) (arguments_on a c b s.0)

    second : SameGiven b d → same_arguments c b ≡ same_arguments c d
    second (inl e) = ap (same_arguments c) e
    second (inr t) = equal_tests (same_arguments c b) (same_arguments c d) (λ is. arguments_on c b d is t.0) (λ is. arguments_on c d b is t.1)

-- a field that conflicts with none that has its arguments
abbrev pub IsOwnMatch : Selected → Type 0
IsOwnMatch x = same_arguments x.arguments x.arguments ≡ true

-- ---- fields

module _ (base count : ℕ) (classes : List ℕ) where
  abbrev pub Same : ℕ → ℕ → Type 0
  Same a b = class_of classes a ≡ class_of classes b

  -- one fragment, or fields of one class
  abbrev pub SameItem : ℕ → ℕ → Type 0
  SameItem i j = (i ≡ j) ⊎ ((base ≤ i) × (base ≤ j) × (i - base < count) × (j - base < count) × Same (i - base) (j - base))

  pub data AllSame : List ℕ → List ℕ → Type 0 where
    none : AllSame [] []
    more : {i j : ℕ} {is js : List ℕ} → SameItem i j → AllSame is js → AllSame (i ∷ is) (j ∷ js)

  pub item_turned : (i j : ℕ) → SameItem i j → SameItem j i
  item_turned i j (inl e) = inl (sym e)
  item_turned i j (inr p) = inr (p.1, p.0, p.3, p.2, sym p.4)

  pub item_on : (i j k : ℕ) → SameItem i j → SameItem j k → SameItem i k
  item_on i j k (inl e) q = subst (λ x. SameItem x k) (sym e) q
  item_on i j k (inr p) (inl e) = subst (SameItem i) e (inr p)
  item_on i j k (inr p) (inr q) = inr (p.0, q.1, p.2, q.3, p.4 ∙ q.4)

  pub all_refl : (is : List ℕ) → AllSame is is
  all_refl [] = none
  all_refl (i ∷ is) = more (inl refl) (all_refl is)

  pub all_turned : {is js : List ℕ} → AllSame is js → AllSame js is
  all_turned none = none
  all_turned (more {i = i} {j = j} s rest) = more (item_turned i j s) (all_turned rest)

  pub all_on : {is js ks : List ℕ} → AllSame is js → AllSame js ks → AllSame is ks
  all_on none none = none
  all_on (more {i = i} {j = j} s rest) (more {j = k} t others) = more (item_on i j k s t) (all_on rest others)

  -- two fields that differ in their places alone
  pub record Like (one two : Selected) : Type 0 where
    pub parent : one.parent.text ≡ two.parent.text
    pub key : key_of one ≡ key_of two
    pub name : one.name.text ≡ two.name.text
    pub arguments : SameGiven one.arguments two.arguments
    pub shape : levels one.definition.ty ≡ levels two.definition.ty
    pub named : (named_type one.definition.ty).text ≡ (named_type two.definition.ty).text
    pub selected : AllSame one.items two.items

  pub like_refl : (x : Selected) → Like x x
  like_refl x = record { parent = refl; key = refl; name = refl; arguments = inl refl; shape = refl; named = refl; selected = all_refl x.items }

  pub like_turned : (x y : Selected) → Like x y → Like y x
  like_turned x y l = record {
    parent = sym l.parent;
    key = sym l.key;
    name = sym l.name;
    arguments = given_turned x.arguments y.arguments l.arguments;
    shape = sym l.shape;
    named = sym l.named;
    selected = all_turned l.selected;
  }

  pub like_on : (x y z : Selected) → Like x y → Like y z → Like x z
  like_on x y z l m = record {
    parent = l.parent ∙ m.parent;
    key = l.key ∙ m.key;
    name = l.name ∙ m.name;
    arguments = given_on x.arguments y.arguments z.arguments l.arguments m.arguments;
    shape = l.shape ∙ m.shape;
    named = l.named ∙ m.named;
    selected = all_on l.selected m.selected;
  }

  pub items_same : (is js : List ℕ) → length classes ≡ count → same_items base classes is js ≡ true → AllSame is js
  items_same [] [] as_many is = none
  items_same [] (j ∷ js) as_many is = absurd cc
  items_same (i ∷ is) [] as_many all = absurd cc
  items_same (i ∷ is) (j ∷ js) as_many all =
      let parts = both_true (same_item base classes i j) (same_items base classes is js) all in
      more (one (either_true (i == j) ((has_class base classes i && has_class base classes j) && (class_of classes (i - base) == class_of classes (j - base))) parts.0)) (items_same is js as_many parts.1)
    where
      one : ((i == j) ≡ true) ⊎ (((has_class base classes i && has_class base classes j) && (class_of classes (i - base) == class_of classes (j - base))) ≡ true) → SameItem i j
      one (inl e) = inl (eqb-true i j e)
      one (inr t) =
          let both = both_true (has_class base classes i && has_class base classes j) (class_of classes (i - base) == class_of classes (j - base)) t in
          let has = both_true (has_class base classes i) (has_class base classes j) both.0 in
          let at_i = both_true (nat_le base i) (nat_lt (i - base) (length classes)) has.0 in
          let at_j = both_true (nat_le base j) (nat_lt (j - base) (length classes)) has.1 in
          inr (
            leb-true base i at_i.0,
            leb-true base j at_j.0,
            subst (λ n. i - base < n) as_many (ltb-true (i - base) (length classes) at_i.1),
            subst (λ n. j - base < n) as_many (ltb-true (j - base) (length classes) at_j.1),
            eqb-true (class_of classes (i - base)) (class_of classes (j - base)) both.1,
          )

  pub alike : (x y : Selected) → length classes ≡ count → is_like base classes x y ≡ true → Like x y × IsOwnMatch x
  alike x y as_many is =
      let a = both_true (same_head x y) (same_items base classes x.items y.items) is in
      let b = both_true (bytes_eq x.parent.text y.parent.text) _ a.0 in
      let c = both_true (bytes_eq (key_of x) (key_of y)) _ b.1 in
      let d = both_true (bytes_eq x.name.text y.name.text) _ c.1 in
      let e = both_true (same_both_ways x.arguments y.arguments) _ d.1 in
      let f = both_true (same_arguments x.arguments y.arguments) (same_arguments y.arguments x.arguments) e.0 in
      let g = both_true (same_levels (levels x.definition.ty) (levels y.definition.ty)) _ e.1 in (
        record {
          parent = one_text x.parent.text y.parent.text b.0;
          key = one_text (key_of x) (key_of y) c.0;
          name = one_text x.name.text y.name.text d.0;
          arguments = inr f;
          shape = one_levels (levels x.definition.ty) (levels y.definition.ty) g.0;
          named = one_text (named_type x.definition.ty).text (named_type y.definition.ty).text g.1;
          selected = items_same x.items y.items as_many a.1;
        },
        arguments_on x.arguments y.arguments x.arguments f.0 f.1,
      )

  -- what is reached from such items is such fields
  module _ (g : Graph) (based : base ≡ length g) where
    pub ends_there : (i n : ℕ) → base ≤ i → Reaches g i n → i ≡ n
    ends_there i n high at_once = refl
    ends_there i n high (along {b = k} edge rest) = absurd (omega (arith, high, based, from_node g i k edge))

    pub moved : (is js : List ℕ) (x : ℕ) → AllSame is js → IsField g js x → (y : ℕ) × IsField g is y × Same y x × ((y ≡ x) ⊎ (y < count))
    moved is js x all field = by_items all field.0 field.1 field.2
      where
        by_items : {is js : List ℕ} → AllSame is js → (j : ℕ) → Contains js j → Reaches g j (length g + x) → (y : ℕ) × IsField g is y × Same y x × ((y ≡ x) ⊎ (y < count))
        by_items none j c r = absurd (none_contained j c)
        by_items (more {i = i} {j = k} {is = is} {js = js} s rest) j c r = by_place (Contains-cons_cases k js j c) s (λ later. by_items rest j later r)
          where
            Goal : Type 0
            Goal = (y : ℕ) × IsField g (i ∷ is) y × Same y x × ((y ≡ x) ⊎ (y < count))

            widen : (y : ℕ) × IsField g is y × Same y x × ((y ≡ x) ⊎ (y < count)) → Goal
            widen p = (p.0, (p.1.0, Contains-append_right (i ∷ []) is p.1.0 p.1.1, p.1.2), p.2, p.3)

            here : SameItem i j → Goal
            here (inl e) = (x, (i, (0, omega arith, refl), subst (λ n. Reaches g n (length g + x)) (sym e) r), refl, inl refl)
            here (inr p) =
                let ends : j ≡ length g + x = ends_there j (length g + x) p.1 r in
                let to_x : j - base ≡ x = omega (arith, ends, based) in
                let to_i : i ≡ length g + (i - base) = omega (arith, p.0, based) in
                (i - base, (i, (0, omega arith, refl), subst (Reaches g i) to_i at_once), p.4 ∙ ap (class_of classes) to_x, inr p.2)

            by_place : (k ≡ j) ⊎ Contains js j → SameItem i k → (Contains js j → (y : ℕ) × IsField g is y × Same y x × ((y ≡ x) ⊎ (y < count))) → Goal
            by_place (inl e) s further = here (subst (SameItem i) e s)
            by_place (inr later) s further = widen (further later)

-- ---- what like fields conflict with

module _ (types : List ExtendedType) where
  abbrev pub apart_by : List ℕ → List ℕ → Bool
  apart_by p q = not (bytes_eq p q) && (is_object_name types p && is_object_name types q)

  abbrev pub broken_by : Bool → List Bool → List Bool → List ℕ → List ℕ → List ℕ → List ℕ → List ℕ → List ℕ → Bool → Bool
  broken_by m l k t u p q n o same =
      ((is_known types t && is_known types u) && not (same_levels l k && same_named types t u)) || ((m && not (apart_by p q)) && (not (bytes_eq n o) || not same))

  pub apart_turned : (p q : List ℕ) → apart_by p q ≡ apart_by q p
  apart_turned p q = ap (λ t. not t && (is_object_name types p && is_object_name types q)) (text_turned p q) ∙ ap (λ t. not (bytes_eq q p) && t) (both_turned (is_object_name types p) (is_object_name types q))
    where
      both_turned : (a b : Bool) → (a && b) ≡ (b && a)
      both_turned true true = refl
      both_turned true false = refl
      both_turned false true = refl
      both_turned false false = refl

  module _ (base count : ℕ) (classes : List ℕ) where
    pub apart_like : (x y x' y' : Selected) → Like base count classes x x' → Like base count classes y y' → are_apart types x y ≡ are_apart types x' y'
    apart_like x y x' y' l k = λ i. apart_by (l.parent i) (k.parent i)

    pub broken_like : (m : Bool) (x y x' y' : Selected) → Like base count classes x x' → Like base count classes y y' → is_broken types m x y ≡ is_broken types m x' y'
    broken_like m x y x' y' l k = λ i. broken_by m (l.shape i) (k.shape i) (l.named i) (k.named i) (l.parent i) (k.parent i) (l.name i) (k.name i)
        (given_alike x.arguments y.arguments x'.arguments y'.arguments l.arguments k.arguments i)

  pub named_self : (n : List ℕ) → same_named types n n ≡ true
  named_self n = ap (λ t. t || (is_composite_name types n && is_composite_name types n)) (text_refl n)

  -- such a field does not conflict with itself
  pub broken_self : (m : Bool) (x : Selected) → IsOwnMatch x → is_broken types m x x ≡ false
  broken_self m x given =
      let shape = levels_refl (levels x.definition.ty) in
      let named : same_named types (named_type x.definition.ty).text (named_type x.definition.ty).text ≡ true = named_self (named_type x.definition.ty).text in
      let name = text_refl x.name.text in
      let k : Bool = are_known types x.definition.ty x.definition.ty in
      ap (λ t. (k && not (t && same_named types (named_type x.definition.ty).text (named_type x.definition.ty).text))
      || ((m && not (are_apart types x x)) && (not (bytes_eq x.name.text x.name.text) || not (same_arguments x.arguments x.arguments)))) shape
      ∙ ap (λ t. (k && not t) || ((m && not (are_apart types x x)) && (not (bytes_eq x.name.text x.name.text) || not (same_arguments x.arguments x.arguments)))) named
      ∙ ap (λ t. t || ((m && not (are_apart types x x)) && (not (bytes_eq x.name.text x.name.text) || not (same_arguments x.arguments x.arguments)))) (and_none k)
      ∙ ap (λ t. (m && not (are_apart types x x)) && (not t || not (same_arguments x.arguments x.arguments))) name
      ∙ ap (λ t. (m && not (are_apart types x x)) && not t) given
      ∙ and_none (m && not (are_apart types x x))
    where
      and_none : (a : Bool) → (a && false) ≡ false
      and_none true = refl
      and_none false = refl

  -- what breaks nothing in full breaks nothing by type alone
  pub broken_less : (m n : Bool) (x y : Selected) → (n ≡ true → m ≡ true) → is_broken types m x y ≡ false → is_broken types n x y ≡ false
  broken_less m n x y less is = by_modes m n less (types_conflict types x y) (not (are_apart types x y)) (not (bytes_eq x.name.text y.name.text) || not (same_arguments x.arguments y.arguments)) is
    where
      by_modes : (m n : Bool) → (n ≡ true → m ≡ true) → (t r d : Bool) → (t || ((m && r) && d)) ≡ false → (t || ((n && r) && d)) ≡ false
      by_modes m n less true r d is = is
      by_modes m false less false r d is = refl
      by_modes true true less false r d is = is
      by_modes false true less false r d is = absurd (let h = less refl in let e : false ≡ true = h in cc)

-- The pairs that are found are those that are compared, and each that breaks the rule is told once.
use Rattle.std.proofs.Common.{◌≡◌, ◌⊎◌, inl, inr, ℕ, ◌<◌, Bool, true, false, not, cond, ◌&&◌, ◌||◌, ◌==◌, Option, Some, None, List, [], ◌∷◌, ◌++◌, filter, length, refl, sym, ap, ◌∙◌, subst, arith}
use Rattle.std.specs.List.{Contains, IsDistinct, AllByRecursion, flat_map, list_any, list_all, slice_get}
use Rattle.std.specs.Option.{option_and_then}
use Rattle.std.specs.Bool.{beq}
use Rattle.std.specs.Prelude.{is_none}
use Rattle.std.proofs.lemmas.Map.Keys.{IsDistinct-head, IsDistinct-tail, IsDistinct-cons}
use Rattle.std.proofs.lemmas.List.Elements.{Contains-append_right}
use Rattle.std.proofs.lemmas.Bool.{eqb-true, eq-eqb}
use Rattle.gql_graph.proofs.Flooded.{Contains-cons_cases, none_contained}
use Rattle.gql_graph.specs.bridge.Explored.{pair_of, IsMet, same, other, IsExplored}
use Rattle.gql_graph.specs.Pairs.{Sets, IsCompared, in_set, below as under}
use Rattle.gql_graph.specs.bridge.Steps.{is_pair}
use Rattle.gql_graph.specs.declared.pair.Pair.{Pair}
use Rattle.gql_schema_types.specs.declared.types.ExtendedType.{ExtendedType}
use Rattle.gql_rules_merging.specs.ConflictingFieldType.{types_conflict}
use Rattle.gql_rules_merging.specs.FieldSelectionMerging.{below, below_fields, conflict_of, same_fields, sets_of, are_apart, differ, items}
use Rattle.gql_rules_merging.specs.Numbering.{Selected, Numbered}
use Rattle.gql_rules_merging.specs.bridge.Classes.{AreClasses, is_sound}
use Rattle.gql_rules_merging.specs.ResponseKeys.{key_numbers}
use Rattle.gql_rules_merging.specs.bridge.Telling.{in_full, is_told, told_of, AreConflictsOf, NoneBreaks}
use Rattle.gql_graph.proofs.Inserted.{found_by}
use Rattle.gql_rules_merging.proofs.Pairing.{pair_of-low}
use Rattle.gql_rules_merging.proofs.Screened.{none_breaks}

-- ---- lists

kept_has : {A : Type 0} (test : A → Bool) (xs : List A) (x : A) → Contains xs x → test x ≡ true → Contains (filter test xs) x
kept_has test [] x c holds = absurd (none_contained x c)
kept_has test (y ∷ ys) x c holds = by_test (λ later. kept_has test ys x later holds) (test y) refl (Contains-cons_cases y ys x c)
  where
    by_test : (Contains ys x → Contains (filter test ys) x) → (t : Bool) → test y ≡ t → (y ≡ x) ⊎ Contains ys x → Contains (cond t (y ∷ filter test ys) (filter test ys)) x
    by_test further true is (inl e) = subst (Contains (y ∷ filter test ys)) e (0, omega arith, refl)
    by_test further true is (inr later) = Contains-append_right (y ∷ []) (filter test ys) x (further later)
    by_test further false is (inl e) = absurd (let h : true ≡ false = sym holds ∙ ap test (sym e) ∙ is in cc)
    by_test further false is (inr later) = further later

kept_from : {A : Type 0} (test : A → Bool) (xs : List A) (x : A) → Contains (filter test xs) x → Contains xs x × (test x ≡ true)
kept_from test [] x c = absurd (none_contained x c)
kept_from test (y ∷ ys) x c = by_test (λ later. kept_from test ys x later) (test y) refl c
  where
    by_test : (Contains (filter test ys) x → Contains ys x × (test x ≡ true)) → (t : Bool) → test y ≡ t → Contains (cond t (y ∷ filter test ys) (filter test ys)) x
        → Contains (y ∷ ys) x × (test x ≡ true)
    by_test further true is c = elim (Contains-cons_cases y (filter test ys) x c) [
      | inl e ↦ (subst (Contains (y ∷ ys)) e (0, omega arith, refl), ap test (sym e) ∙ is)
      | inr later ↦ (let rest = further later in (Contains-append_right (y ∷ []) ys x rest.0, rest.1))
    ]
    by_test further false is c = let rest = further c in (Contains-append_right (y ∷ []) ys x rest.0, rest.1)

flat_kept : {A B : Type 0} (test : A → Bool) (f : A → List B) (xs : List A) → flat_map (λ x. cond (test x) (f x) []) xs ≡ flat_map f (filter test xs)
flat_kept test f [] = refl
flat_kept test f (x ∷ xs) = by_test (flat_kept test f xs) (test x)
  where
    by_test : flat_map (λ y. cond (test y) (f y) []) xs ≡ flat_map f (filter test xs) → (t : Bool)
        → cond t (f x) [] ++ flat_map (λ y. cond (test y) (f y) []) xs ≡ flat_map f (cond t (x ∷ filter test xs) (filter test xs))
    by_test rest true = ap (λ l. f x ++ l) rest
    by_test rest false = rest

all_of : {A : Type 0} (P : A → Type 0) (xs : List A) → ((x : A) → Contains xs x → P x) → AllByRecursion P xs
all_of P [] each = tt
all_of P (x ∷ xs) each = (each x (0, omega arith, refl), all_of P xs (λ y c. each y (Contains-append_right (x ∷ []) xs y c)))

one_of : {A : Type 0} (P : A → Type 0) (xs : List A) (x : A) → AllByRecursion P xs → Contains xs x → P x
one_of P [] x all c = absurd (none_contained x c)
one_of P (y ∷ ys) x all c = elim (Contains-cons_cases y ys x c) [ inl e ↦ subst P e all.0 | inr later ↦ one_of P ys x all.1 later ]

any_among : {A : Type 0} (test : A → Bool) (xs : List A) (x : A) → Contains xs x → test x ≡ true → list_any test xs ≡ true
any_among test [] x c holds = absurd (none_contained x c)
any_among test (y ∷ ys) x c holds = by_test (λ later. any_among test ys x later holds) (test y) refl (Contains-cons_cases y ys x c)
  where
    by_test : (Contains ys x → list_any test ys ≡ true) → (t : Bool) → test y ≡ t → (y ≡ x) ⊎ Contains ys x → (t || list_any test ys) ≡ true
    by_test further true is c = refl
    by_test further false is (inl e) = absurd (let h : true ≡ false = sym holds ∙ ap test (sym e) ∙ is in cc)
    by_test further false is (inr later) = further later

none_distinct : (e : Pair → Pair → Bool) → IsDistinct e []
unfolding IsDistinct
none_distinct e = tt

-- ---- tests

pair_refl : (p : Pair) → is_pair p p ≡ true
pair_refl p = ap (λ t. t && ((p.second == p.second) && same_mode p.in_full)) (eq-eqb p.first p.first refl) ∙ ap (λ t. t && same_mode p.in_full) (eq-eqb p.second p.second refl) ∙ by_mode p.in_full
  where
    same_mode : Bool → Bool
    same_mode m = beq m m

    by_mode : (m : Bool) → same_mode m ≡ true
    by_mode true = refl
    by_mode false = refl

fields_refl : (p : Pair) → same_fields p p ≡ true
fields_refl p = ap (λ t. t && (p.second == p.second)) (eq-eqb p.first p.first refl) ∙ eq-eqb p.second p.second refl

fields-true : (p q : Pair) → same_fields p q ≡ true → (p.first ≡ q.first) × (p.second ≡ q.second)
fields-true p q is = by_test (p.first == q.first) refl is
  where
    by_test : (t : Bool) → (p.first == q.first) ≡ t → (t && (p.second == q.second)) ≡ true → (p.first ≡ q.first) × (p.second ≡ q.second)
    by_test true e is = (eqb-true p.first q.first e, eqb-true p.second q.second is)
    by_test false e is = absurd cc

none-true : {A : Type 0} (o : Option A) → is_none o ≡ true → o ≡ None
none-true None is = refl
none-true (Some x) is = absurd cc

none-is : {A : Type 0} (o : Option A) → o ≡ None → is_none o ≡ true
none-is o is = ap is_none is

module _ (types : List ExtendedType) (fields : List Selected) where
  -- what breaks the rule by type alone breaks it in full
  full_below : (p : Pair) → below types fields p ≡ None → below types fields (in_full p) ≡ None
  full_below p is = by_first (slice_get fields p.first) is
    where
      by_types : (m t r d : Bool) → cond (t || ((m && r) && d)) None (Some (m && r)) ≡ None → cond (t || ((true && r) && d)) None (Some (true && r)) ≡ None
      by_types true t r d is = is
      by_types false true r d is = refl
      by_types false false r d is = absurd cc

      by_second : (one : Selected) (o : Option Selected) → option_and_then (below_fields types p.in_full one) o ≡ None → option_and_then (below_fields types true one) o ≡ None
      by_second one None is = refl
      by_second one (Some two) is = by_types p.in_full (types_conflict types one two) (not (are_apart types one two)) (differ one two) is

      by_first : (o : Option Selected) → option_and_then (λ one. option_and_then (below_fields types p.in_full one) (slice_get fields p.second)) o ≡ None
          → option_and_then (λ one. option_and_then (below_fields types true one) (slice_get fields p.second)) o ≡ None
      by_first None is = refl
      by_first (Some one) is = by_second one (slice_get fields p.second) is

  module _ (seen : List Pair) where
    -- which pairs are told
    told_if : (p : Pair) → below types fields p ≡ None → (p.in_full || not (list_any (is_pair (in_full p)) seen)) ≡ true → is_told types fields seen p ≡ true
    told_if p is mode = ap (λ t. t && (p.in_full || not (list_any (is_pair (in_full p)) seen))) (none-is (below types fields p) is) ∙ mode

    told_breaks : (p : Pair) → is_told types fields seen p ≡ true → below types fields p ≡ None
    told_breaks p is = by_test (is_none (below types fields p)) refl is
      where
        by_test : (t : Bool) → is_none (below types fields p) ≡ t → (t && (p.in_full || not (list_any (is_pair (in_full p)) seen))) ≡ true → below types fields p ≡ None
        by_test true e is = none-true (below types fields p) e
        by_test false e is = absurd cc

    told_mode : (p : Pair) → is_told types fields seen p ≡ true → (p.in_full || not (list_any (is_pair (in_full p)) seen)) ≡ true
    told_mode p is = by_test (is_none (below types fields p)) is
      where
        by_test : (t : Bool) → (t && (p.in_full || not (list_any (is_pair (in_full p)) seen))) ≡ true → (p.in_full || not (list_any (is_pair (in_full p)) seen)) ≡ true
        by_test true is = is
        by_test false is = absurd cc

    -- two different pairs of the same fields are not both told
    one_mode : (p q : Pair) → Contains seen p → Contains seen q → is_told types fields seen p ≡ true → is_told types fields seen q ≡ true
        → p.first ≡ q.first → p.second ≡ q.second → p ≡ q
    one_mode p q c d told_p told_q first second = by_modes p.in_full refl q.in_full refl
      where
        made : ℕ × ℕ × Bool → Pair
        made t = record { first = t.0; second = t.1; in_full = t.2 }

        alike : p.in_full ≡ q.in_full → p ≡ q
        alike mode = λ i. made (first i, second i, mode i)

        -- the one in full is among those seen
        clash : (a b : Pair) → Contains seen a → a.in_full ≡ true → b.in_full ≡ false → a.first ≡ b.first → a.second ≡ b.second → is_told types fields seen b ≡ true → ⊥
        clash a b in_seen full typed f s told =
            let twin : a ≡ in_full b = λ i. made (f i, s i, full i) in
            let any = any_among (is_pair (in_full b)) seen (in_full b) (subst (Contains seen) twin in_seen) (pair_refl (in_full b)) in
            let h : false ≡ true = sym (ap (λ m. m || not (list_any (is_pair (in_full b)) seen)) typed ∙ ap not any) ∙ told_mode b told in cc

        by_modes : (m : Bool) → p.in_full ≡ m → (n : Bool) → q.in_full ≡ n → p ≡ q
        by_modes true a true b = alike (a ∙ sym b)
        by_modes false a false b = alike (a ∙ sym b)
        by_modes true a false b = absurd (clash p q c a b first second told_q)
        by_modes false a true b = absurd (clash q p d b a (sym first) (sym second) told_p)

    told_distinct : (xs : List Pair) → ((p : Pair) → Contains xs p → Contains seen p) → IsDistinct is_pair xs → IsDistinct same_fields (filter (is_told types fields seen) xs)
    told_distinct [] inside distinct = none_distinct same_fields
    told_distinct (x ∷ xs) inside distinct =
        by_test (told_distinct xs (λ p c. inside p (Contains-append_right (x ∷ []) xs p c)) (IsDistinct-tail is_pair x xs distinct)) (is_told types fields seen x) refl
      where
        apart : is_told types fields seen x ≡ true → (y : Pair) → Contains (filter (is_told types fields seen) xs) y → same_fields x y ≡ false
        apart told y c = by_same (same_fields x y) refl
          where
            by_same : (t : Bool) → same_fields x y ≡ t → same_fields x y ≡ false
            by_same false is = is
            by_same true is = absurd (
                let from = kept_from (is_told types fields seen) xs y c in
                let both = fields-true x y is in
                let one = one_mode x y (inside x (0, omega arith, refl)) (inside y (Contains-append_right (x ∷ []) xs y from.0)) told from.1 both.0 both.1 in
                let unlike = one_of (λ z. is_pair x z ≡ false) xs y (IsDistinct-head is_pair x xs distinct) from.0 in
                let h : true ≡ false = sym (pair_refl x) ∙ ap (is_pair x) one ∙ unlike in cc)

        by_test : IsDistinct same_fields (filter (is_told types fields seen) xs) → (t : Bool) → is_told types fields seen x ≡ t
            → IsDistinct same_fields (cond t (x ∷ filter (is_told types fields seen) xs) (filter (is_told types fields seen) xs))
        by_test rest true told =
            IsDistinct-cons same_fields x (filter (is_told types fields seen) xs)
            (all_of (λ y. same_fields x y ≡ false) (filter (is_told types fields seen) xs) (apart told)) rest
        by_test rest false told = rest

-- ---- what is compared is found

met_found : (found : List Pair) (m : Bool) (a b : ℕ) → IsMet [] found m a b → a < b → Contains found (record { first = a; second = b; in_full = m })
met_found found m a b (same e) low = absurd (omega (arith, e, low))
met_found found m a b (other c d e f is) low =
    subst (Contains found) (pair_of-low m a b low) (subst (λ x. Contains found (pair_of m a x)) f (subst (λ x. Contains found (pair_of m x d)) e is))

module _ (s : Sets) (found : List Pair) (explored : IsExplored s [] found) where
  compared_found : {p : Pair} → IsCompared s p → Contains found p
  compared_found {p} (in_set {items = items} set pair full) =
      subst (λ m. Contains found (record { first = p.first; second = p.second; in_full = m })) (sym full)
      (met_found found true p.first p.second (explored.in_sets items set p.first p.second pair.alike) pair.ordered)
  compared_found {p} (under {above = above} is_compared goes pair) =
      met_found found p.in_full p.first p.second (explored.further above p.in_full (compared_found is_compared) goes p.first p.second pair.alike) pair.ordered

module _ (types : List ExtendedType) (document : Numbered) (found : List Pair) (explored : IsExplored (sets_of types document) [] found) (distinct : IsDistinct is_pair found) where
  pub told_all : AreConflictsOf types document (flat_map (told_of types document.fields found) found)
  told_all = record {
    pairs = filter told found;
    distinct = told_distinct types document.fields found found (λ p c. c) distinct;
    all = λ p is breaks. by_mode p (compared_found (sets_of types document) found explored is) breaks p.in_full refl;
    only = λ p c. (let from = kept_from told found p c in (explored.compared p from.0, told_breaks types document.fields found p from.1));
    whole = flat_kept told (conflict_of types document.fields) found;
  }
    where
      told : Pair → Bool
      told = is_told types document.fields found

      by_any : (p : Pair) → Contains found p → below types document.fields p ≡ None → p.in_full ≡ false → (t : Bool) → list_any (is_pair (in_full p)) found ≡ t
          → (q : Pair) × Contains (filter told found) q × (same_fields p q ≡ true)
      by_any p c breaks typed true any =
          let twin = found_by (in_full p) found any in
          (in_full p, kept_has told found (in_full p) twin (told_if types document.fields found (in_full p) (full_below types document.fields p breaks) refl), fields_refl p)
      by_any p c breaks typed false any =
          (p, kept_has told found p c (told_if types document.fields found p breaks (ap (λ m. m || not (list_any (is_pair (in_full p)) found)) typed ∙ ap not any)), fields_refl p)

      by_mode : (p : Pair) → Contains found p → below types document.fields p ≡ None → (m : Bool) → p.in_full ≡ m
          → (q : Pair) × Contains (filter told found) q × (same_fields p q ≡ true)
      by_mode p c breaks true full =
          (p, kept_has told found p c (told_if types document.fields found p breaks (ap (λ m. m || not (list_any (is_pair (in_full p)) found)) full)), fields_refl p)
      by_mode p c breaks false typed = by_any p c breaks typed (list_any (is_pair (in_full p)) found) refl

-- ---- what the steps leave

-- the sets that pairs are explored by
abbrev sets_with : List ExtendedType → Numbered → List Selected → List ℕ → Sets
sets_with types document fields keys = record {
  fragments = document.fragments;
  operations = document.operations;
  items = items fields;
  keys = keys;
  below = below types fields;
}

pub told_each : (types : List ExtendedType) (document : Numbered) (fields : List Selected) (keys : List ℕ) (found pairs : List Pair) → fields ≡ document.fields
    → keys ≡ key_numbers document.fields → pairs ≡ found → IsDistinct is_pair found → IsExplored (sets_with types document fields keys) [] found
    → AreConflictsOf types document (flat_map (told_of types fields found) pairs)
told_each types document fields keys found pairs same_fields same_keys same_pairs distinct explored =
    subst (λ fs. AreConflictsOf types document (flat_map (told_of types fs found) pairs)) (sym same_fields)
    (subst (λ ps. AreConflictsOf types document (flat_map (told_of types document.fields found) ps)) (sym same_pairs)
    (told_all types document found
    (subst (λ ks. IsExplored (sets_with types document document.fields ks) [] found) same_keys (subst (λ fs. IsExplored (sets_with types document fs keys) [] found) same_fields explored))
    distinct))

pub sound_by : (types : List ExtendedType) (document : Numbered) (fields : List Selected) (keys classes : List ℕ) (found pairs : List Pair) → fields ≡ document.fields
    → keys ≡ key_numbers document.fields → pairs ≡ found → AreClasses (length document.fragments) document.fields classes
    → IsExplored (sets_with types document fields keys) classes found → list_all (is_sound types fields) pairs ≡ true → NoneBreaks types document
sound_by types document fields keys classes found pairs same_fields same_keys same_pairs are explored sound =
    none_breaks types document classes found are
    (subst (λ ks. IsExplored (sets_with types document document.fields ks) classes found) same_keys (subst (λ fs. IsExplored (sets_with types document fs keys) classes found) same_fields explored))
    (subst (λ ps. list_all (is_sound types document.fields) ps ≡ true) same_pairs (subst (λ fs. list_all (is_sound types fs) pairs ≡ true) same_fields sound))

pub none_told : (types : List ExtendedType) (document : Numbered) → NoneBreaks types document → AreConflictsOf types document []
none_told types document none = record {
  pairs = [];
  distinct = none_distinct same_fields;
  all = λ p is breaks. absurd (none p is breaks);
  only = λ p c. absurd (none_contained p c);
  whole = refl;
}

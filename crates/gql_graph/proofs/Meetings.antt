-- What holds while fields meet in buckets.
use Rattle.std.proofs.Common.{◌≡◌, ◌≢◌, ◌⊎◌, inl, inr, ℕ, zero, suc, ◌<◌, Bool, true, false, cond, ◌||◌, ◌==◌, Option, Some, None, List, [], ◌∷◌, ◌++◌, length, set, refl, sym, ap, ◌∙◌, subst, arith, append_assoc}
use Rattle.std.specs.List.{Contains, slice_get, list_any}
use Rattle.std.specs.Option.{option_map_or}
use Rattle.std.proofs.lemmas.List.{append-nil}
use Rattle.std.proofs.lemmas.List.Elements.{Contains-append_left, Contains-append_right, Contains-push, Contains-push_cases}
use Rattle.std.proofs.lemmas.Bool.{eqb-true, eq-eqb}
use Rattle.gql_graph.proofs.Flooded.{get-set_same, get-set_other, same_or_not, Contains-cons_cases, none_contained}
use Rattle.gql_graph.specs.bridge.Explored.{pair_of, class_of, AreOfOneClass, same, other, AreEmpty, HasOneKey, IsPaired}
use Rattle.gql_graph.specs.bridge.Steps.{Meeting, meeting, is_covered, met_in, met_by_key, met, all_met, all_inserted, emptied, all_emptied}
use Rattle.gql_graph.specs.declared.pair.Pair.{Pair}
use Rattle.gql_graph.proofs.Inserted.{all_grows, all_keep, all_have, all_only, pair_of-low, pair_of-high, pair_of-either, either_order}
use Rattle.gql_graph.proofs.SetFields.{set_here, got_within}

-- ---- lists

set_same : {A : Type 0} (xs : List A) (i : ℕ) (x : A) → slice_get xs i ≡ Some x → set xs i x ≡ xs
set_same [] i x is = refl
set_same (z ∷ xs) zero x is = let e : z ≡ x = (let h : Some z ≡ Some x = is in cc) in ap (λ y. y ∷ xs) (sym e)
set_same (z ∷ xs) (suc i) x is = ap (λ l. z ∷ l) (set_same xs i x is)

length_set : {A : Type 0} (xs : List A) (i : ℕ) (x : A) → length (set xs i x) ≡ length xs
length_set [] i x = refl
length_set (z ∷ xs) zero x = refl
length_set (z ∷ xs) (suc i) x = ap suc (length_set xs i x)

one_got : {A : Type 0} (xs : List A) (i : ℕ) (x y : A) → slice_get xs i ≡ Some x → slice_get xs i ≡ Some y → x ≡ y
one_got xs i x y a b = let e : Some x ≡ Some y = sym a ∙ b in cc

-- what an element that some test holds of
any_from : {A : Type 0} (test : A → Bool) (xs : List A) → list_any test xs ≡ true → (x : A) × Contains xs x × (test x ≡ true)
any_from test [] is = absurd cc
any_from test (x ∷ xs) is = by_test (λ later. any_from test xs later) (test x) refl is
  where
    by_test : (list_any test xs ≡ true → (y : _) × Contains xs y × (test y ≡ true)) → (t : Bool) → test x ≡ t → (t || list_any test xs) ≡ true
        → (y : _) × Contains (x ∷ xs) y × (test y ≡ true)
    by_test further true e is = (x, (0, omega arith, refl), e)
    by_test further false e is = (let rest = further is in (rest.0, Contains-append_right (x ∷ []) xs rest.0 rest.1, rest.2))

any_not : {A : Type 0} (test : A → Bool) (xs : List A) (x : A) → list_any test xs ≡ false → Contains xs x → test x ≡ true → ⊥
any_not test [] x is c holds = none_contained x c
any_not test (y ∷ ys) x is c holds = by_test (λ later c. any_not test ys x later c holds) (test y) refl is (Contains-cons_cases y ys x c)
  where
    by_test : (list_any test ys ≡ false → Contains ys x → ⊥) → (t : Bool) → test y ≡ t → (t || list_any test ys) ≡ false → (y ≡ x) ⊎ Contains ys x → ⊥
    by_test further true e is c = absurd cc
    by_test further false e is (inl here) = let h : true ≡ false = sym holds ∙ ap test (sym here) ∙ e in absurd cc
    by_test further false e is (inr later) = further is later

module _ (keys classes : List ℕ) (in_full : Bool) where
  -- what happens to a field: it has no key, or no bucket, or one of its class is there, or it is put there
  data Turn (a : ℕ) (t : Meeting) : Type 0 where
    keyless : slice_get keys a ≡ None → met keys classes in_full a t ≡ t → Turn a t
    beyond : (k : ℕ) → slice_get keys a ≡ Some k → slice_get t.buckets k ≡ None → met keys classes in_full a t ≡ t → Turn a t
    covered : (k : ℕ) (bucket : List ℕ) → slice_get keys a ≡ Some k → slice_get t.buckets k ≡ Some bucket → is_covered classes a bucket ≡ true
        → met keys classes in_full a t ≡ t → Turn a t
    placed : (k : ℕ) (bucket : List ℕ) → slice_get keys a ≡ Some k → slice_get t.buckets k ≡ Some bucket → is_covered classes a bucket ≡ false
        → met keys classes in_full a t ≡ meeting (set t.buckets k (bucket ++ a ∷ [])) (all_inserted in_full a bucket t.seen) → Turn a t

  turn : (a : ℕ) (t : Meeting) → Turn a t
  turn a t = by_key (slice_get keys a) refl
    where
      by_covered : (k : ℕ) (bucket : List ℕ) → slice_get keys a ≡ Some k → slice_get t.buckets k ≡ Some bucket
          → met keys classes in_full a t ≡ met_in classes in_full k a t bucket → (u : Bool) → is_covered classes a bucket ≡ u → Turn a t
      by_covered k bucket key at is true test =
          covered k bucket key at test
          (is ∙ ap (λ u. meeting (set t.buckets k (cond u bucket (bucket ++ a ∷ []))) (cond u t.seen (all_inserted in_full a bucket t.seen))) test ∙ ap (λ b. meeting b t.seen) (set_same t.buckets k bucket at))
      by_covered k bucket key at is false test =
          placed k bucket key at test (is ∙ ap (λ u. meeting (set t.buckets k (cond u bucket (bucket ++ a ∷ []))) (cond u t.seen (all_inserted in_full a bucket t.seen))) test)

      by_bucket : (k : ℕ) → slice_get keys a ≡ Some k → met keys classes in_full a t ≡ met_by_key classes in_full a t k → (o : Option (List ℕ)) → slice_get t.buckets k ≡ o → Turn a t
      by_bucket k key is None at = beyond k key at (is ∙ ap (λ o. option_map_or (met_in classes in_full k a t) o t) at)
      by_bucket k key is (Some bucket) at = by_covered k bucket key at (is ∙ ap (λ o. option_map_or (met_in classes in_full k a t) o t) at) (is_covered classes a bucket) refl

      by_key : (o : Option ℕ) → slice_get keys a ≡ o → Turn a t
      by_key None key = keyless key (ap (λ o. option_map_or (met_by_key classes in_full a t) o t) key)
      by_key (Some k) key = by_bucket k key (ap (λ o. option_map_or (met_by_key classes in_full a t) o t) key) (slice_get t.buckets k) refl

  abbrev IsNew : List ℕ → Pair → Type 0
  IsNew fields p = Contains fields p.first × Contains fields p.second × (p.first < p.second) × HasOneKey keys p.first p.second × (p.in_full ≡ in_full)

  -- a field of its class stands in the bucket of its key
  abbrev Stands : ℕ → Meeting → ℕ → Type 0
  Stands count t a = (k : ℕ) → k < count → slice_get keys a ≡ Some k
      → (bucket : List ℕ) × (slice_get t.buckets k ≡ Some bucket) × ((r : ℕ) × Contains bucket r × AreOfOneClass classes r a)

  record Holds (fields : List ℕ) (count : ℕ) (old : List Pair) (t : Meeting) : Type 0 where
    as_many : length t.buckets ≡ count
    more : List Pair
    grown : t.seen ≡ old ++ more
    inside : (k : ℕ) (bucket : List ℕ) (a : ℕ) → slice_get t.buckets k ≡ Some bucket → Contains bucket a → Contains fields a × (slice_get keys a ≡ Some k)
    paired : (k : ℕ) (bucket : List ℕ) (x y : ℕ) → slice_get t.buckets k ≡ Some bucket → Contains bucket x → Contains bucket y
        → AreOfOneClass classes x y ⊎ Contains t.seen (pair_of in_full x y)
    only : (p : Pair) → Contains t.seen p → Contains old p ⊎ IsNew fields p

  -- the field that is put into a bucket is of another class than those there
  apart_from : (a : ℕ) (bucket : List ℕ) (b : ℕ) → is_covered classes a bucket ≡ false → Contains bucket b → b ≢ a
  apart_from a bucket b is c e =
      any_not (λ x. class_of classes a == class_of classes x) bucket b is c (eq-eqb (class_of classes a) (class_of classes b) (ap (class_of classes) (sym e)))

  is_new : (fields : List ℕ) (a b k : ℕ) → b ≢ a → Contains fields a → Contains fields b → slice_get keys a ≡ Some k → slice_get keys b ≡ Some k → IsNew fields (pair_of in_full b a)
  is_new fields a b k apart in_a in_b key_a key_b = elim (either_order b a apart) [
    | inl low ↦ subst (IsNew fields) (sym (pair_of-low in_full b a low)) (in_b, in_a, low, (k, key_b, key_a), refl)
    | inr high ↦ subst (IsNew fields) (sym (pair_of-high in_full b a high)) (in_a, in_b, high, (k, key_a, key_b), refl)
  ]

  module _ (fields : List ℕ) (count : ℕ) (old : List Pair) where
    place : (a k : ℕ) (bucket : List ℕ) (t : Meeting) → Contains fields a → slice_get keys a ≡ Some k → slice_get t.buckets k ≡ Some bucket → is_covered classes a bucket ≡ false
        → Holds fields count old t → Holds fields count old (meeting (set t.buckets k (bucket ++ a ∷ [])) (all_inserted in_full a bucket t.seen))
    place a k bucket t in_a key at free holds =
        let grows = all_grows in_full a bucket t.seen in
        record {
          as_many = length_set t.buckets k (bucket ++ a ∷ []) ∙ holds.as_many;
          more = holds.more ++ grows.0;
          grown = grows.1 ∙ ap (λ l. l ++ grows.0) holds.grown ∙ append_assoc old holds.more grows.0;
          inside = λ j b x is c. elim (same_or_not j k) [
            | inl e ↦ (let now = set_here t.buckets k b (bucket ++ a ∷ []) (ap (slice_get (set t.buckets k (bucket ++ a ∷ []))) (sym e) ∙ is) in
                elim (Contains-push_cases bucket a x (subst (λ l. Contains l x) now c)) [
                  | inl before ↦ (let h = holds.inside k bucket x at before in (h.0, h.1 ∙ ap Some (sym e)))
                  | inr is_a ↦ (subst (Contains fields) is_a in_a, ap (slice_get keys) (sym is_a) ∙ key ∙ ap Some (sym e))
                ])
            | inr apart ↦ holds.inside j b x (sym (get-set_other t.buckets k j (bucket ++ a ∷ []) apart) ∙ is) c
          ];
          paired = λ j b x y is c d. elim (same_or_not j k) [
            | inl e ↦ (let now = set_here t.buckets k b (bucket ++ a ∷ []) (ap (slice_get (set t.buckets k (bucket ++ a ∷ []))) (sym e) ∙ is) in
                both x y (Contains-push_cases bucket a x (subst (λ l. Contains l x) now c)) (Contains-push_cases bucket a y (subst (λ l. Contains l y) now d)))
            | inr apart ↦ kept x y (holds.paired j b x y (sym (get-set_other t.buckets k j (bucket ++ a ∷ []) apart) ∙ is) c d)
          ];
          only = λ p c. elim (all_only in_full a bucket t.seen p c) [
            | inl before ↦ holds.only p before
            | inr q ↦ inr (subst (IsNew fields) (sym q.2)
                (is_new fields a q.0 k (apart_from a bucket q.0 free q.1) in_a (holds.inside k bucket q.0 at q.1).0 key (holds.inside k bucket q.0 at q.1).1))
          ];
        }
      where
        kept : (x y : ℕ) → AreOfOneClass classes x y ⊎ Contains t.seen (pair_of in_full x y) → AreOfOneClass classes x y ⊎ Contains (all_inserted in_full a bucket t.seen) (pair_of in_full x y)
        kept x y (inl e) = inl e
        kept x y (inr c) = inr (all_keep in_full a bucket t.seen (pair_of in_full x y) c)

        both : (x y : ℕ) → Contains bucket x ⊎ (a ≡ x) → Contains bucket y ⊎ (a ≡ y)
            → AreOfOneClass classes x y ⊎ Contains (all_inserted in_full a bucket t.seen) (pair_of in_full x y)
        both x y (inl c) (inl d) = kept x y (holds.paired k bucket x y at c d)
        both x y (inl c) (inr e) = inr (subst (λ z. Contains (all_inserted in_full a bucket t.seen) (pair_of in_full x z)) e (all_have in_full a bucket t.seen x c))
        both x y (inr e) (inl d) = inr (subst (λ z. Contains (all_inserted in_full a bucket t.seen) (pair_of in_full z y)) e
            (subst (Contains (all_inserted in_full a bucket t.seen)) (pair_of-either in_full y a (apart_from a bucket y free d)) (all_have in_full a bucket t.seen y d)))
        both x y (inr e) (inr f) = inl (ap (class_of classes) (sym e ∙ f))

    step_holds : (a : ℕ) (t : Meeting) → Contains fields a → Holds fields count old t → Holds fields count old (met keys classes in_full a t)
    step_holds a t in_a holds = elim (turn a t) [
      | keyless key is ↦ subst (Holds fields count old) (sym is) holds
      | beyond k key at is ↦ subst (Holds fields count old) (sym is) holds
      | covered k bucket key at test is ↦ subst (Holds fields count old) (sym is) holds
      | placed k bucket key at test is ↦ subst (Holds fields count old) (sym is) (place a k bucket t in_a key at test holds)
    ]

    all_hold : (rest : List ℕ) (t : Meeting) → ((a : ℕ) → Contains rest a → Contains fields a) → Holds fields count old t → Holds fields count old (all_met keys classes in_full rest t)
    all_hold [] t inside holds = holds
    all_hold (a ∷ rest) t inside holds =
        all_hold rest (met keys classes in_full a t) (λ b c. inside b (Contains-append_right (a ∷ []) rest b c)) (step_holds a t (inside a (0, omega arith, refl)) holds)

  -- what stands stays
  stands_on : (count a : ℕ) (t : Meeting) (b : ℕ) → Stands count t b → Stands count (met keys classes in_full a t) b
  stands_on count a t b stands = elim (turn a t) [
    | keyless key is ↦ subst (λ u. Stands count u b) (sym is) stands
    | beyond k key at is ↦ subst (λ u. Stands count u b) (sym is) stands
    | covered k bucket key at test is ↦ subst (λ u. Stands count u b) (sym is) stands
    | placed k bucket key at test is ↦ subst (λ u. Stands count u b) (sym is) (λ j within key_b.
        (let was = stands j within key_b in
        elim (same_or_not j k) [
          | inl e ↦ (
            bucket ++ a ∷ [],
            ap (slice_get (set t.buckets k (bucket ++ a ∷ []))) e ∙ get-set_same t.buckets k bucket (bucket ++ a ∷ []) at,
            (was.2.0, Contains-append_left bucket (a ∷ []) was.2.0 (subst (λ l. Contains l was.2.0) (one_got t.buckets k was.0 bucket (ap (slice_get t.buckets) (sym e) ∙ was.1) at) was.2.1), was.2.2),
          )
          | inr apart ↦ (was.0, get-set_other t.buckets k j (bucket ++ a ∷ []) apart ∙ was.1, was.2)
        ]))
  ]

  stands_now : (count a : ℕ) (t : Meeting) → length t.buckets ≡ count → Stands count (met keys classes in_full a t) a
  stands_now count a t as_many k within key = elim (turn a t) [
    | keyless lacks is ↦ (let h : None ≡ Some k = sym lacks ∙ key in absurd cc)
    | beyond j key_j at is ↦ (let e : j ≡ k = one_got keys a j k key_j key in
        let got = got_within t.buckets j (omega (arith, e, as_many, within)) in
        let h : None ≡ Some got.0 = sym at ∙ got.1 in absurd cc)
    | covered j bucket key_j at test is ↦ (let e : j ≡ k = one_got keys a j k key_j key in
        let among = any_from (λ x. class_of classes a == class_of classes x) bucket test in
        (bucket, ap (λ (u : Meeting). slice_get u.buckets k) is ∙ ap (slice_get t.buckets) (sym e) ∙ at, (among.0, among.1, sym (eqb-true (class_of classes a) (class_of classes among.0) among.2))))
    | placed j bucket key_j at test is ↦ (let e : j ≡ k = one_got keys a j k key_j key in (
      bucket ++ a ∷ [],
      ap (λ (u : Meeting). slice_get u.buckets k) is ∙ ap (slice_get (set t.buckets j (bucket ++ a ∷ []))) (sym e) ∙ get-set_same t.buckets j bucket (bucket ++ a ∷ []) at,
      (a, Contains-push bucket a, refl),
    ))
  ]

  met_length : (a : ℕ) (t : Meeting) → length (met keys classes in_full a t).buckets ≡ length t.buckets
  met_length a t = elim (turn a t) [
    | keyless key is ↦ ap (λ (u : Meeting). length u.buckets) is
    | beyond k key at is ↦ ap (λ (u : Meeting). length u.buckets) is
    | covered k bucket key at test is ↦ ap (λ (u : Meeting). length u.buckets) is
    | placed k bucket key at test is ↦ ap (λ (u : Meeting). length u.buckets) is ∙ length_set t.buckets k (bucket ++ a ∷ [])
  ]

  stand_on : (count : ℕ) (rest : List ℕ) (t : Meeting) (b : ℕ) → Stands count t b → Stands count (all_met keys classes in_full rest t) b
  stand_on count [] t b stands = stands
  stand_on count (a ∷ rest) t b stands = stand_on count rest (met keys classes in_full a t) b (stands_on count a t b stands)

  all_stand : (count : ℕ) (rest : List ℕ) (t : Meeting) → length t.buckets ≡ count → (b : ℕ) → Contains rest b → Stands count (all_met keys classes in_full rest t) b
  all_stand count [] t as_many b c = absurd (none_contained b c)
  all_stand count (a ∷ rest) t as_many b c = elim (Contains-cons_cases a rest b c) [
    | inl e ↦ stand_on count rest (met keys classes in_full a t) b (subst (Stands count (met keys classes in_full a t)) e (stands_now count a t as_many))
    | inr later ↦ all_stand count rest (met keys classes in_full a t) (met_length a t ∙ as_many) b later
  ]

  -- empty buckets
  begun : (fields : List ℕ) (buckets : List (List ℕ)) (old : List Pair) → AreEmpty buckets → Holds fields (length buckets) old (meeting buckets old)
  begun fields buckets old empty = record {
    as_many = refl;
    more = [];
    grown = sym (append-nil old);
    inside = λ k bucket a is c. absurd (none_contained a (subst (λ l. Contains l a) (empty k bucket is) c));
    paired = λ k bucket x y is c d. absurd (none_contained x (subst (λ l. Contains l x) (empty k bucket is) c));
    only = λ p c. inl c;
  }

  module _ (fields : List ℕ) (buckets : List (List ℕ)) (old : List Pair) (empty : AreEmpty buckets) where
    abbrev end : Meeting
    end = all_met keys classes in_full fields (meeting buckets old)

    held : Holds fields (length buckets) old end
    held = all_hold fields (length buckets) old fields (meeting buckets old) (λ a c. c) (begun fields buckets old empty)

    pub paired_all : IsPaired keys classes fields (length buckets) in_full old end.seen
    paired_all = record {
      more = held.more;
      grown = held.grown;
      only = held.only;
      met = λ a b k within in_a in_b key_a key_b.
          (let at_a = all_stand (length buckets) fields (meeting buckets old) refl a in_a k within key_a in
          let at_b = all_stand (length buckets) fields (meeting buckets old) refl b in_b k within key_b in
          let one : at_b.0 ≡ at_a.0 = one_got end.buckets k at_b.0 at_a.0 at_b.1 at_a.1 in
          elim (held.paired k at_a.0 at_a.2.0 at_b.2.0 at_a.1 at_a.2.1 (subst (λ l. Contains l at_b.2.0) one at_b.2.1)) [
            | inl e ↦ same (sym at_a.2.2 ∙ e ∙ at_b.2.2)
            | inr c ↦ other at_a.2.0 at_b.2.0 at_a.2.2 at_b.2.2 c
          ]);
    }

    emptied_at : (rest : List ℕ) (left : List (List ℕ)) (k : ℕ) (bucket : List ℕ) → slice_get (all_emptied keys left rest) k ≡ Some bucket
        → (bucket ≡ []) ⊎ ((slice_get left k ≡ Some bucket) × ((a : ℕ) → Contains rest a → slice_get keys a ≡ Some k → ⊥))
    emptied_at [] left k bucket is = inr (is, λ a c key. none_contained a c)
    emptied_at (x ∷ rest) left k bucket is = elim (emptied_at rest (emptied keys left x) k bucket is) [
      | inl e ↦ inl e
      | inr p ↦ by_key (slice_get keys x) refl p.0 p.1
    ]
      where
        by_key : (o : Option ℕ) → slice_get keys x ≡ o → slice_get (option_map_or (λ j. set left j []) o left) k ≡ Some bucket
            → ((a : ℕ) → Contains rest a → slice_get keys a ≡ Some k → ⊥)
            → (bucket ≡ []) ⊎ ((slice_get left k ≡ Some bucket) × ((a : ℕ) → Contains (x ∷ rest) a → slice_get keys a ≡ Some k → ⊥))
        by_key None key at none = inr (
          at,
          λ a c key_a. elim (Contains-cons_cases x rest a c) [
            | inl e ↦ (let h : None ≡ Some k = sym key ∙ ap (slice_get keys) e ∙ key_a in absurd cc)
            | inr later ↦ none a later key_a
          ],
        )
        by_key (Some j) key at none = elim (same_or_not k j) [
          | inl e ↦ inl (set_here left j bucket [] (ap (slice_get (set left j [])) (sym e) ∙ at))
          | inr apart ↦ inr (
            sym (get-set_other left j k [] apart) ∙ at,
            λ a c key_a. elim (Contains-cons_cases x rest a c) [
              | inl e ↦ apart (one_got keys a k j key_a (ap (slice_get keys) (sym e) ∙ key))
              | inr later ↦ none a later key_a
            ],
          )
        ]

    all_emptied_length : (rest : List ℕ) (left : List (List ℕ)) → length (all_emptied keys left rest) ≡ length left
    all_emptied_length [] left = refl
    all_emptied_length (x ∷ rest) left = all_emptied_length rest (emptied keys left x) ∙ by_key (slice_get keys x)
      where
        by_key : (o : Option ℕ) → length (option_map_or (λ j. set left j []) o left) ≡ length left
        by_key None = refl
        by_key (Some j) = length_set left j []

    pub empty_again : AreEmpty (all_emptied keys end.buckets fields)
    empty_again k bucket is = elim (emptied_at fields end.buckets k bucket is) [
      | inl e ↦ e
      | inr p ↦ by_bucket bucket p.0 p.1
    ]
      where
        by_bucket : (b : List ℕ) → slice_get end.buckets k ≡ Some b → ((a : ℕ) → Contains fields a → slice_get keys a ≡ Some k → ⊥) → b ≡ []
        by_bucket [] at none = refl
        by_bucket (a ∷ b) at none = absurd (let h = held.inside k (a ∷ b) a at (0, omega arith, refl) in none a h.0 h.1)

    pub as_many_again : length (all_emptied keys end.buckets fields) ≡ length buckets
    as_many_again = all_emptied_length fields end.buckets ∙ held.as_many

-- Keys in the order of their first occurrence.
use Rattle.std.proofs.Common.{◌≡◌, ℕ, Bool, true, false, cond, not, ◌&&◌, ◌||◌, if◌then◌else◌, List, [], ◌∷◌, ◌++◌, Some, None, refl, sym, ap, ◌∙◌}
use Rattle.std.specs.List.{find, list_any}
use Rattle.std.specs.Str.{bytes_eq}
use Rattle.std.proofs.lemmas.Slice.Eq.{bytes_eq-Decides}
use Rattle.gql_collect.specs.Groups.{distinct_after}
use Rattle.gql_collect.specs.Same.{SameFirst}

abbrev pub Text : Type 0
Text = List ℕ

abbrev pub has : Text → List Text → Bool
has k seen = list_any (bytes_eq k) seen

pub text-same : (x y : Text) → bytes_eq x y ≡ true → x ≡ y
text-same x y e = (bytes_eq-Decides x y).0 e

pub text-itself : (x : Text) → bytes_eq x x ≡ true
text-itself x = (bytes_eq-Decides x x).1 refl

pub text-turned : (x y : Text) → bytes_eq x y ≡ bytes_eq y x
text-turned x y = by (bytes_eq x y) (bytes_eq y x) refl refl
  where
    by : (a b : Bool) → bytes_eq x y ≡ a → bytes_eq y x ≡ b → a ≡ b
    by true true is si = refl
    by false false is si = refl
    by true false is si = absurd (let e : true ≡ false = sym (text-itself x) ∙ ap (λ z. bytes_eq z x) (text-same x y is) ∙ si in cc)
    by false true is si = absurd (let e : true ≡ false = sym (text-itself x) ∙ ap (bytes_eq x) (sym (text-same y x si)) ∙ is in cc)

abbrev fresh : List Text → (Text → Bool) → Text → Bool
fresh seen p k = not (has k seen) && p k

abbrev SameAfter : List Text → List Text → List Text → Type 0
SameAfter seen us vs = (p : Text → Bool) → find (fresh seen p) us ≡ find (fresh seen p) vs

find_same : {A : Type 0} (p q : A → Bool) → ((x : A) → p x ≡ q x) → (xs : List A) → find p xs ≡ find q xs
find_same p q same [] = refl
find_same p q same (x ∷ xs) = ap (λ b. cond b (Some x) (find p xs)) (same x) ∙ ap (λ r. cond (q x) (Some x) r) (find_same p q same xs)

no_longer_fresh : (seen : List Text) (u : Text) (p : Text → Bool) (k : Text) → fresh (u ∷ seen) p k ≡ fresh seen (λ k. not (bytes_eq k u) && p k) k
no_longer_fresh seen u p k =
    elim (bytes_eq k u) as (λ b. (not (b || has k seen) && p k) ≡ (not (has k seen) && (not b && p k))) [
      | true ↦ elim (has k seen) as (λ c. false ≡ (not c && false)) [ true ↦ refl | false ↦ refl ]
      | false ↦ refl
    ]

-- an item that was there already is looked for in vain
skipped : (seen : List Text) (u : Text) (us : List Text) (p : Text → Bool) → has u seen ≡ true → find (fresh seen p) (u ∷ us) ≡ find (fresh seen p) us
skipped seen u us p there = ap (λ b. cond (not b && p u) (Some u) (find (fresh seen p) us)) there

found : (seen : List Text) (u : Text) (us : List Text) → has u seen ≡ false → find (fresh seen (λ k. true)) (u ∷ us) ≡ Some u
found seen u us absent = ap (λ b. cond (not b && true) (Some u) (find (fresh seen (λ k. true)) us)) absent

-- behind an item, what isn't that item
behind : (seen : List Text) (u : Text) (us : List Text) (p : Text → Bool) → find (fresh (u ∷ seen) p) us ≡ find (fresh seen (λ k. not (bytes_eq k u) && p k)) (u ∷ us)
behind seen u us p =
    find_same (fresh (u ∷ seen) p) (fresh seen (λ k. not (bytes_eq k u) && p k)) (no_longer_fresh seen u p) us
    ∙ sym (ap (λ b. cond (not (has u seen) && (not b && p u)) (Some u) (find (fresh seen (λ k. not (bytes_eq k u) && p k)) us)) (text-itself u)
    ∙ elim (has u seen) as (λ c. cond (not c && false) (Some u) (find (fresh seen (λ k. not (bytes_eq k u) && p k)) us) ≡ find (fresh seen (λ k. not (bytes_eq k u) && p k)) us) [ true ↦ refl | false ↦ refl ])

abbrev DistinctSame : List Text → Type 0
DistinctSame us = (seen vs : List Text) → SameAfter seen us vs → distinct_after seen us ≡ distinct_after seen vs

first_seen : (seen : List Text) (u : Text) (us : List Text) → has u seen ≡ true → distinct_after seen (u ∷ us) ≡ distinct_after seen us
first_seen seen u us there = ap (λ b. if b then distinct_after seen us else u ∷ distinct_after (u ∷ seen) us) there

first_new : (seen : List Text) (u : Text) (us : List Text) → has u seen ≡ false → distinct_after seen (u ∷ us) ≡ u ∷ distinct_after (u ∷ seen) us
first_new seen u us absent = ap (λ b. if b then distinct_after seen us else u ∷ distinct_after (u ∷ seen) us) absent

-- nothing is new
distinct-none : (seen vs : List Text) → SameAfter seen [] vs → [] ≡ distinct_after seen vs
distinct-none seen [] s = refl
distinct-none seen (v ∷ vs) s = by (has v seen) refl (distinct-none seen vs)
  where
    by : (b : Bool) → has v seen ≡ b → (SameAfter seen [] vs → [] ≡ distinct_after seen vs) → [] ≡ distinct_after seen (v ∷ vs)
    by true there rest = rest (λ p. s p ∙ skipped seen v vs p there) ∙ sym (first_seen seen v vs there)
    by false absent rest = let e : None ≡ Some v = s (λ k. true) ∙ found seen v vs absent in cc

-- the first of the one is new: so is a first of the other
distinct-new : (u : Text) (us : List Text) → DistinctSame us → (seen vs : List Text) → has u seen ≡ false → SameAfter seen (u ∷ us) vs
    → u ∷ distinct_after (u ∷ seen) us ≡ distinct_after seen vs
distinct-new u us ih seen [] absent s = let e : Some u ≡ None = sym (found seen u us absent) ∙ s (λ k. true) in cc
distinct-new u us ih seen (v ∷ vs) absent s = by (has v seen) refl (distinct-new u us ih seen vs absent)
  where
    by : (b : Bool) → has v seen ≡ b → (SameAfter seen (u ∷ us) vs → u ∷ distinct_after (u ∷ seen) us ≡ distinct_after seen vs)
        → u ∷ distinct_after (u ∷ seen) us ≡ distinct_after seen (v ∷ vs)
    by true there rest = rest (λ p. s p ∙ skipped seen v vs p there) ∙ sym (first_seen seen v vs there)
    by false new rest =
        let e : Some u ≡ Some v = sym (found seen u us absent) ∙ s (λ k. true) ∙ found seen v vs new in
        let same : u ≡ v = cc in
        let more : SameAfter (u ∷ seen) us vs =
        λ p. behind seen u us p ∙ s (λ k. not (bytes_eq k u) && p k)
        ∙ ap (λ w. find (fresh seen (λ k. not (bytes_eq k u) && p k)) (w ∷ vs)) (sym same) ∙ sym (behind seen u vs p) in
        ap (λ l. u ∷ l) (ih (u ∷ seen) vs more) ∙ ap (λ w. w ∷ distinct_after (w ∷ seen) vs) same ∙ sym (first_new seen v vs new)

distinct-same : (us : List Text) → DistinctSame us
distinct-same [] seen vs s = distinct-none seen vs s
distinct-same (u ∷ us) seen vs s = by (has u seen) refl (distinct-same us)
  where
    by : (b : Bool) → has u seen ≡ b → DistinctSame us → distinct_after seen (u ∷ us) ≡ distinct_after seen vs
    by true there rest = first_seen seen u us there ∙ rest seen vs (λ p. sym (skipped seen u us p there) ∙ s p)
    by false absent rest = first_new seen u us absent ∙ distinct-new u us rest seen vs absent s

-- lists that are the same once repeats are left out have the same keys
pub keys-same : (us vs : List Text) → SameFirst us vs → distinct_after [] us ≡ distinct_after [] vs
keys-same us vs s = distinct-same us [] vs (λ p. s (λ k. true && p k))

-- ---- one key more

abbrev unless : Bool → Text → List Text
unless there k = if there then [] else k ∷ []

known-or-there : (a b c : Bool) → (a || (b || c)) ≡ ((b || a) || c)
known-or-there true true c = refl
known-or-there true false c = refl
known-or-there false true c = refl
known-or-there false false c = refl

pub distinct-more : (ks : List Text) (seen : List Text) (k : Text) → distinct_after seen (ks ++ k ∷ []) ≡ distinct_after seen ks ++ unless (has k seen || has k ks) k
distinct-more [] seen k = elim (has k seen) as (λ b. (if b then [] else k ∷ []) ≡ unless (b || false) k) [ true ↦ refl | false ↦ refl ]
distinct-more (j ∷ ks) seen k = by (has j seen) refl (distinct-more ks)
  where
    old : (b : Bool) → bytes_eq k j ≡ b → has j seen ≡ true → (has k seen || has k ks) ≡ (has k seen || (b || has k ks))
    old false is there = refl
    old true is there = let here : has k seen ≡ true = ap (λ i. has i seen) (text-same k j is) ∙ there in ap (λ b. b || has k ks) here ∙ sym (ap (λ b. b || true) here)

    by : (b : Bool) → has j seen ≡ b → ((seen : List Text) (k : Text) → distinct_after seen (ks ++ k ∷ []) ≡ distinct_after seen ks ++ unless (has k seen || has k ks) k)
        → distinct_after seen (j ∷ (ks ++ k ∷ [])) ≡ distinct_after seen (j ∷ ks) ++ unless (has k seen || (bytes_eq k j || has k ks)) k
    by true there rest =
        first_seen seen j (ks ++ k ∷ []) there ∙ rest seen k ∙ ap (λ b. distinct_after seen ks ++ unless b k) (old (bytes_eq k j) refl there)
        ∙ ap (λ l. l ++ unless (has k seen || (bytes_eq k j || has k ks)) k) (sym (first_seen seen j ks there))
    by false absent rest =
        first_new seen j (ks ++ k ∷ []) absent ∙ ap (λ l. j ∷ l) (rest (j ∷ seen) k)
        ∙ ap (λ b. j ∷ (distinct_after (j ∷ seen) ks ++ unless b k)) (sym (known-or-there (has k seen) (bytes_eq k j) (has k ks)))
        ∙ ap (λ l. l ++ unless (has k seen || (bytes_eq k j || has k ks)) k) (sym (first_new seen j ks absent))

-- what is there already comes no more
pub distinct-without : (ks seen : List Text) (k : Text) → has k seen ≡ true → has k (distinct_after seen ks) ≡ false
distinct-without [] seen k there = refl
distinct-without (j ∷ ks) seen k there = by (has j seen) refl (distinct-without ks)
  where
    other : (b : Bool) → bytes_eq k j ≡ b → has j seen ≡ false → b ≡ false
    other false is absent = refl
    other true is absent = absurd (let e : true ≡ false = sym there ∙ ap (λ i. has i seen) (text-same k j is) ∙ absent in cc)

    by : (b : Bool) → has j seen ≡ b → ((seen : List Text) (k : Text) → has k seen ≡ true → has k (distinct_after seen ks) ≡ false)
        → has k (if b then distinct_after seen ks else j ∷ distinct_after (j ∷ seen) ks) ≡ false
    by true is rest = rest seen k there
    by false is rest =
        ap (λ b. b || has k (distinct_after (j ∷ seen) ks)) (other (bytes_eq k j) refl is)
        ∙ rest (j ∷ seen) k (ap (λ b. bytes_eq k j || b) there ∙ elim (bytes_eq k j) as (λ b. (b || true) ≡ true) [ true ↦ refl | false ↦ refl ])

-- and what isn't there comes exactly where it is among the keys
pub distinct-has : (ks seen : List Text) (k : Text) → has k seen ≡ false → has k (distinct_after seen ks) ≡ has k ks
distinct-has [] seen k absent = refl
distinct-has (j ∷ ks) seen k absent = by (has j seen) refl (distinct-has ks)
  where
    same : (c : Bool) → bytes_eq k j ≡ c → ((seen : List Text) (k : Text) → has k seen ≡ false → has k (distinct_after seen ks) ≡ has k ks)
        → (c || has k (distinct_after (j ∷ seen) ks)) ≡ (c || has k ks)
    same true is rest = refl
    same false is rest = rest (j ∷ seen) k (ap (λ b. b || has k seen) is ∙ absent)

    other : (c : Bool) → bytes_eq k j ≡ c → has j seen ≡ true → has k ks ≡ (c || has k ks)
    other false is there = refl
    other true is there = absurd (let e : true ≡ false = sym there ∙ ap (λ i. has i seen) (sym (text-same k j is)) ∙ absent in cc)

    by : (b : Bool) → has j seen ≡ b → ((seen : List Text) (k : Text) → has k seen ≡ false → has k (distinct_after seen ks) ≡ has k ks)
        → has k (if b then distinct_after seen ks else j ∷ distinct_after (j ∷ seen) ks) ≡ (bytes_eq k j || has k ks)
    by true there rest = rest seen k absent ∙ other (bytes_eq k j) refl there
    by false new rest = same (bytes_eq k j) refl rest

-- no key comes twice
abbrev pub AreDistinct : List Text → Type 0
AreDistinct [] = Unit {0}
AreDistinct (k ∷ ks) = (has k ks ≡ false) × AreDistinct ks

pub are-distinct : (ks seen : List Text) → AreDistinct (distinct_after seen ks)
are-distinct [] seen = tt
are-distinct (j ∷ ks) seen = by (has j seen) (are-distinct ks)
  where
    by : (b : Bool) → ((seen : List Text) → AreDistinct (distinct_after seen ks)) → AreDistinct (if b then distinct_after seen ks else j ∷ distinct_after (j ∷ seen) ks)
    by true rest = rest seen
    by false rest = (distinct-without ks (j ∷ seen) j (ap (λ b. b || has j seen) (text-itself j)), rest (j ∷ seen))

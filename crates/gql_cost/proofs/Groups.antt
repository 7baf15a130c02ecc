-- The fields of groups weigh no more than those that were grouped.
use Rattle.std.proofs.Common.{arith, ◌≡◌, ℕ, ◌+◌, ◌≤◌, Bool, true, false, cond, ◌||◌, List, [], ◌∷◌, map, Some, None, filter, find, refl, sym, ap, ◌∙◌}
use Rattle.std.specs.List.{AllByRecursion}
use Rattle.std.specs.Str.{bytes_eq}
use Rattle.gql_document_types.specs.declared.selection.Field.{Field}
use Rattle.gql_collect.proofs.Keys.{Text, has, text-same, text-turned, AreDistinct, are-distinct}
use Rattle.gql_collect.specs.Groups.{response_key, has_key, keys, FieldGroup, group_at, groups_of}
use Rattle.gql_collect.specs.Sizes.{added}
use Rattle.gql_collect.specs.Standing.{weighed}

-- ---- sums

module _ {A : Type 0} where
  pub added-sum : (f g : A → ℕ) (xs : List A) → added (map (λ x. f x + g x) xs) ≡ added (map f xs) + added (map g xs)
  added-sum f g [] = omega arith
  added-sum f g (x ∷ xs) = omega (arith, added-sum f g xs)

  pub added-same : (f g : A → ℕ) → ((x : A) → f x ≡ g x) → (xs : List A) → added (map f xs) ≡ added (map g xs)
  added-same f g same [] = refl
  added-same f g same (x ∷ xs) = omega (arith, same x, added-same f g same xs)

  pub added-none : (f : A → ℕ) → ((x : A) → f x ≡ 0) → (xs : List A) → added (map f xs) ≡ 0
  added-none f none [] = refl
  added-none f none (x ∷ xs) = omega (arith, none x, added-none f none xs)

  pub added-filter : (f : A → ℕ) (p : A → Bool) (xs : List A) → added (map f (filter p xs)) ≤ added (map f xs)
  added-filter f p [] = omega arith
  added-filter f p (x ∷ xs) = by (p x) (added-filter f p xs)
    where
      by : (b : Bool) → added (map f (filter p xs)) ≤ added (map f xs) → added (map f (cond b (x ∷ filter p xs) (filter p xs))) ≤ f x + added (map f xs)
      by true rest = omega (arith, rest)
      by false rest = omega (arith, rest)

pub added-twice : {A B : Type 0} (f : A → B) (g : B → ℕ) (xs : List A) → added (map g (map f xs)) ≡ added (map (λ x. g (f x)) xs)
added-twice f g [] = refl
added-twice f g (x ∷ xs) = ap (λ n. g (f x) + n) (added-twice f g xs)

-- ---- each field is in one group at most

module _ (w : Field → ℕ) where
  -- what a field adds to the fields of a key
  abbrev hit : Field → Text → ℕ
  hit f k = cond (has_key k f) (w f) 0

  no-hits : (f : Field) (ks : List Text) → has (response_key f) ks ≡ false → added (map (hit f) ks) ≡ 0
  no-hits f [] none = refl
  no-hits f (k ∷ ks) none = by (bytes_eq (response_key f) k) refl none (λ e. no-hits f ks e)
    where
      by : (b : Bool) → bytes_eq (response_key f) k ≡ b → (b || has (response_key f) ks) ≡ false
          → (has (response_key f) ks ≡ false → added (map (hit f) ks) ≡ 0) → added (map (hit f) (k ∷ ks)) ≡ 0
      by true is e later = absurd (let g : true ≡ false = e in cc)
      by false is e later =
          let missed : hit f k ≡ 0 = ap (λ b. cond b (w f) 0) (text-turned k (response_key f) ∙ is) in
          omega (arith, missed, later e)

  hits : (f : Field) (ks : List Text) → AreDistinct ks → added (map (hit f) ks) ≤ w f
  hits f [] distinct = omega arith
  hits f (k ∷ ks) distinct = by (has_key k f) refl (hits f ks distinct.1)
    where
      by : (b : Bool) → has_key k f ≡ b → added (map (hit f) ks) ≤ w f → added (map (hit f) (k ∷ ks)) ≤ w f
      by true is rest =
          let here : hit f k ≡ w f = ap (λ b. cond b (w f) 0) is in
          let none = no-hits f ks (ap (λ q. has q ks) (sym (text-same k (response_key f) is)) ∙ distinct.0) in
          omega (arith, here, none)
      by false is rest = omega (arith, ap (λ b. cond b (w f) 0) is, rest)

  one-more : (k : Text) (f : Field) (fs : List Field) → weighed w (filter (has_key k) (f ∷ fs)) ≡ hit f k + weighed w (filter (has_key k) fs)
  one-more k f fs = by (has_key k f)
    where
      by : (b : Bool) → weighed w (cond b (f ∷ filter (has_key k) fs) (filter (has_key k) fs)) ≡ cond b (w f) 0 + weighed w (filter (has_key k) fs)
      by true = refl
      by false = omega arith

  by-keys : (ks : List Text) → AreDistinct ks → (fs : List Field) → added (map (λ k. weighed w (filter (has_key k) fs)) ks) ≤ weighed w fs
  by-keys ks distinct [] = omega (arith, added-none (λ (k : Text). 0) (λ k. refl) ks)
  by-keys ks distinct (f ∷ fs) =
      omega (
        arith,
        added-same (λ k. weighed w (filter (has_key k) (f ∷ fs))) (λ k. hit f k + weighed w (filter (has_key k) fs)) (λ k. one-more k f fs) ks,
        added-sum (hit f) (λ k. weighed w (filter (has_key k) fs)) ks,
        hits f ks distinct,
        by-keys ks distinct fs,
      )

  abbrev pub group_weight : FieldGroup → ℕ
  group_weight g = weighed w g.fields

  pub groups-weigh : (fs : List Field) → added (map group_weight (groups_of fs)) ≤ weighed w fs
  groups-weigh fs =
      omega (
        arith,
        added-twice (group_at fs) group_weight (keys fs),
        by-keys (keys fs) (are-distinct (map response_key fs) []) fs,
      )

-- ---- a group with a first field has fields

pub record HasSome (fields : List Field) : Type 0 where
  pub head : Field
  pub tail : List Field
  pub is : fields ≡ head ∷ tail

abbrev pub IsHeaded : FieldGroup → Type 0
IsHeaded g = (f : Field) → g.first ≡ Some f → HasSome g.fields

find-some : (p : Field → Bool) (fs : List Field) (f : Field) → find p fs ≡ Some f → HasSome (filter p fs)
find-some p [] f is = absurd (let e : None ≡ Some f = is in cc)
find-some p (x ∷ xs) f is = by (p x) is (find-some p xs f)
  where
    by : (b : Bool) → cond b (Some x) (find p xs) ≡ Some f → (find p xs ≡ Some f → HasSome (filter p xs)) → HasSome (cond b (x ∷ filter p xs) (filter p xs))
    by true e rest = record { head = x; tail = filter p xs; is = refl }
    by false e rest = rest e

at-headed : (fs : List Field) (ks : List Text) → AllByRecursion IsHeaded (map (group_at fs) ks)
at-headed fs [] = tt
at-headed fs (k ∷ ks) = (find-some (has_key k) fs, at-headed fs ks)

filter-all : {A : Type 0} (P : A → Type 0) (p : A → Bool) (xs : List A) → AllByRecursion P xs → AllByRecursion P (filter p xs)
filter-all P p [] all = tt
filter-all P p (x ∷ xs) all = by (p x) (filter-all P p xs all.1)
  where
    by : (b : Bool) → AllByRecursion P (filter p xs) → AllByRecursion P (cond b (x ∷ filter p xs) (filter p xs))
    by true rest = (all.0, rest)
    by false rest = rest

pub all-headed : (p : FieldGroup → Bool) (fs : List Field) → AllByRecursion IsHeaded (filter p (groups_of fs))
all-headed p fs = filter-all IsHeaded p (groups_of fs) (at-headed fs (keys fs))

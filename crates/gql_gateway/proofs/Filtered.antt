-- Groups of some fields, where the fields of a key are among them alike.
use Rattle.std.proofs.Common.{arith, ◌≡◌, ℕ, Bool, true, false, cond, not, ◌||◌, if◌then◌else◌, List, [], ◌∷◌, ◌++◌, map, Option, Some, None, refl, sym, ap, ap₂, ◌∙◌, subst}
use Rattle.std.specs.List.{AllByRecursion, filter, find, list_any}
use Rattle.std.specs.Option.{option_map_or}
use Rattle.std.specs.Str.{bytes_eq}
use Rattle.std.proofs.lemmas.List.{append-nil}
use Rattle.std.proofs.lemmas.List.Elements.{filter-append}
use Rattle.gql_document_types.specs.declared.selection.Field.{Field}
use Rattle.gql_document_types.specs.declared.selection.Selection.{Selection}
use Rattle.gql_exec.specs.Group.{Group, pieces_of, started, group_from, groups_from}
use Rattle.gql_collect.proofs.Keys.{Text, has, text-same, text-itself}
use Rattle.gql_collect.specs.Flat.{flat, flat_sets}
use Rattle.gql_collect.specs.Groups.{response_key, has_key, distinct_after, keys, FieldGroup, group_at, groups_of, is_defined, applying}
use Rattle.gql_document_types.specs.Ranks.{AreRanked}
use Rattle.gql_collect.specs.Setting.{Setting}
use Rattle.gql_exec.specs.Restricted.{is_meta}
use Rattle.gql_gateway.specs.Concrete.{concrete}
use Rattle.gql_gateway.specs.Pure.{IsSpreadless, is_meta_field, IsLike, AreLike, IsPure}
use Rattle.gql_gateway.proofs.Flats.{is_own, own_fields, flat-concrete}

-- ---- lists in general

filter-yes : {A : Type 0} (p : A → Bool) (x : A) (xs : List A) → p x ≡ true → filter p (x ∷ xs) ≡ x ∷ filter p xs
filter-yes p x xs is = ap (λ b. cond b (x ∷ filter p xs) (filter p xs)) is

filter-no : {A : Type 0} (p : A → Bool) (x : A) (xs : List A) → p x ≡ false → filter p (x ∷ xs) ≡ filter p xs
filter-no p x xs is = ap (λ b. cond b (x ∷ filter p xs) (filter p xs)) is

filter-turned : {A : Type 0} (p q : A → Bool) (xs : List A) → filter p (filter q xs) ≡ filter q (filter p xs)
filter-turned p q [] = refl
filter-turned p q (x ∷ xs) = by (p x) (q x) refl refl (filter-turned p q xs)
  where
    by : (a b : Bool) → p x ≡ a → q x ≡ b → filter p (filter q xs) ≡ filter q (filter p xs)
        → filter p (cond b (x ∷ filter q xs) (filter q xs)) ≡ filter q (cond a (x ∷ filter p xs) (filter p xs))
    by true true is si rest = filter-yes p x (filter q xs) is ∙ ap (λ l. x ∷ l) rest ∙ sym (filter-yes q x (filter p xs) si)
    by true false is si rest = rest ∙ sym (filter-no q x (filter p xs) si)
    by false true is si rest = filter-no p x (filter q xs) is ∙ rest
    by false false is si rest = rest

filter-map : {A B : Type 0} (f : A → B) (p : B → Bool) (xs : List A) → filter p (map f xs) ≡ map f (filter (λ x. p (f x)) xs)
filter-map f p [] = refl
filter-map f p (x ∷ xs) = by (p (f x)) (filter-map f p xs)
  where
    by : (b : Bool) → filter p (map f xs) ≡ map f (filter (λ x. p (f x)) xs)
        → cond b (f x ∷ filter p (map f xs)) (filter p (map f xs)) ≡ map f (cond b (x ∷ filter (λ x. p (f x)) xs) (filter (λ x. p (f x)) xs))
    by true rest = ap (λ l. f x ∷ l) rest
    by false rest = rest

-- ---- fields of which each key keeps all or none

module _ (q : Text → Bool) where
  abbrev IsTold : Field → Type 0
  IsTold f = is_own f ≡ q (response_key f)

  -- what is kept was seen where it was
  abbrev SeenAlike : List Text → List Text → Type 0
  SeenAlike kept seen = (k : Text) → q k ≡ true → has k kept ≡ has k seen

  new-key : (a k : Text) → q a ≡ true → q k ≡ false → bytes_eq a k ≡ false
  new-key a k is none = by (bytes_eq a k) refl
    where
      by : (b : Bool) → bytes_eq a k ≡ b → b ≡ false
      by true same = absurd (let e : true ≡ false = sym is ∙ ap q (text-same a k same) ∙ none in cc)
      by false other = refl

  kept-keys : (fs : List Field) → AllByRecursion IsTold fs → (kept seen : List Text) → SeenAlike kept seen
      → distinct_after kept (map response_key (own_fields fs)) ≡ filter q (distinct_after seen (map response_key fs))
  kept-keys [] told kept seen alike = refl
  kept-keys (f ∷ fs) told kept seen alike = by (is_own f) refl (has (response_key f) seen) refl (kept-keys fs told.1)
    where
      by : (a : Bool) → is_own f ≡ a → (b : Bool) → has (response_key f) seen ≡ b
          → ((kept seen : List Text) → SeenAlike kept seen → distinct_after kept (map response_key (own_fields fs)) ≡ filter q (distinct_after seen (map response_key fs)))
          → distinct_after kept (map response_key (cond a (f ∷ own_fields fs) (own_fields fs)))
          ≡ filter q (if b then distinct_after seen (map response_key fs) else response_key f ∷ distinct_after (response_key f ∷ seen) (map response_key fs))
      by true own true there rest =
          let yes : q (response_key f) ≡ true = sym told.0 ∙ own in
          ap (λ c. if c then distinct_after kept (map response_key (own_fields fs)) else response_key f ∷ distinct_after (response_key f ∷ kept) (map response_key (own_fields fs)))
          (alike (response_key f) yes ∙ there)
          ∙ rest kept seen alike
      by true own false absent rest =
          let yes : q (response_key f) ≡ true = sym told.0 ∙ own in
          ap (λ c. if c then distinct_after kept (map response_key (own_fields fs)) else response_key f ∷ distinct_after (response_key f ∷ kept) (map response_key (own_fields fs)))
          (alike (response_key f) yes ∙ absent)
          ∙ ap (λ l. response_key f ∷ l) (rest (response_key f ∷ kept) (response_key f ∷ seen) (λ k is. ap (λ b. bytes_eq k (response_key f) || b) (alike k is)))
          ∙ sym (filter-yes q (response_key f) (distinct_after (response_key f ∷ seen) (map response_key fs)) yes)
      by false other true there rest = rest kept seen alike
      by false other false absent rest =
          let no : q (response_key f) ≡ false = sym told.0 ∙ other in
          rest kept (response_key f ∷ seen) (λ k is. alike k is ∙ sym (ap (λ b. b || has k seen) (new-key k (response_key f) is no)))
          ∙ sym (filter-no q (response_key f) (distinct_after (response_key f ∷ seen) (map response_key fs)) no)

  -- the fields of a key that is kept
  module _ (k : Text) (is : q k ≡ true) where
    missed : (f : Field) → IsTold f → is_own f ≡ false → has_key k f ≡ false
    missed f told other = new-key k (response_key f) is (sym told ∙ other)

    same-fields : (fs : List Field) → AllByRecursion IsTold fs → filter (has_key k) (own_fields fs) ≡ filter (has_key k) fs
    same-fields [] told = refl
    same-fields (f ∷ fs) told = by (is_own f) refl (same-fields fs told.1)
      where
        by : (a : Bool) → is_own f ≡ a → filter (has_key k) (own_fields fs) ≡ filter (has_key k) fs
            → filter (has_key k) (cond a (f ∷ own_fields fs) (own_fields fs)) ≡ filter (has_key k) (f ∷ fs)
        by true own rest = ap (λ l. cond (has_key k f) (f ∷ l) l) rest
        by false other rest = rest ∙ sym (filter-no (has_key k) f fs (missed f told.0 other))

    same-first : (fs : List Field) → AllByRecursion IsTold fs → find (has_key k) (own_fields fs) ≡ find (has_key k) fs
    same-first [] told = refl
    same-first (f ∷ fs) told = by (is_own f) refl (same-first fs told.1)
      where
        by : (a : Bool) → is_own f ≡ a → find (has_key k) (own_fields fs) ≡ find (has_key k) fs
            → find (has_key k) (cond a (f ∷ own_fields fs) (own_fields fs)) ≡ find (has_key k) (f ∷ fs)
        by true own rest = ap (λ o. cond (has_key k f) (Some f) o) rest
        by false other rest = rest ∙ sym (ap (λ b. cond b (Some f) (find (has_key k) fs)) (missed f told.0 other))

    same-group : (fs : List Field) → AllByRecursion IsTold fs → group_at (own_fields fs) k ≡ group_at fs k
    same-group fs told =
        ap₂ (λ (o : Option Field) (l : List Field). let g : FieldGroup = record { key = k; first = o; fields = l } in g) (same-first fs told) (same-fields fs told)

  same-groups : (fs : List Field) → AllByRecursion IsTold fs → (ks : List Text) → map (group_at (own_fields fs)) (filter q ks) ≡ map (group_at fs) (filter q ks)
  same-groups fs told [] = refl
  same-groups fs told (k ∷ ks) = by (q k) refl (same-groups fs told ks)
    where
      by : (b : Bool) → q k ≡ b → map (group_at (own_fields fs)) (filter q ks) ≡ map (group_at fs) (filter q ks)
          → map (group_at (own_fields fs)) (cond b (k ∷ filter q ks) (filter q ks)) ≡ map (group_at fs) (cond b (k ∷ filter q ks) (filter q ks))
      by true is rest = ap₂ (λ g l. g ∷ l) (same-group k is fs told) rest
      by false is rest = rest

  abbrev kept_group : FieldGroup → Bool
  kept_group g = q g.key

  pub groups-kept : (fs : List Field) → AllByRecursion IsTold fs → groups_of (own_fields fs) ≡ filter kept_group (groups_of fs)
  groups-kept fs told =
      ap (map (group_at (own_fields fs))) (kept-keys fs told [] [] (λ k is. refl))
      ∙ same-groups fs told (keys fs)
      ∙ sym (filter-map (group_at fs) kept_group (keys fs))

  -- ---- as execution takes them

  -- a group is kept where its first field is
  abbrev IsLed : FieldGroup → Type 0
  IsLed g = (f : Field) → g.first ≡ Some f → q g.key ≡ is_own f

  abbrev is_asked : Group → Bool
  is_asked g = not (is_meta g)

  kept-start : (b : Bool) (o : Option Field) (fields : List Field) (rest : List Group) → ((f : Field) → o ≡ Some f → b ≡ is_own f)
      → cond b (started o fields) [] ++ filter is_asked rest ≡ filter is_asked (started o fields ++ rest)
  kept-start true None fields rest led = refl
  kept-start false None fields rest led = refl
  kept-start true (Some f) fields rest led =
      sym (filter-yes is_asked (record { first = f; pieces = pieces_of fields }) rest (sym (led f refl)))
  kept-start false (Some f) fields rest led =
      sym (filter-no is_asked (record { first = f; pieces = pieces_of fields }) rest (sym (led f refl)))

  pub from-kept : (gs : List FieldGroup) → AllByRecursion IsLed gs → groups_from (filter kept_group gs) ≡ filter is_asked (groups_from gs)
  from-kept [] led = refl
  from-kept (g ∷ gs) led =
      by (q g.key) refl (from-kept gs led.1) ∙ kept-start (q g.key) g.first g.fields (groups_from gs) led.0
    where
      by : (b : Bool) → q g.key ≡ b → groups_from (filter kept_group gs) ≡ filter is_asked (groups_from gs)
          → groups_from (cond b (g ∷ filter kept_group gs) (filter kept_group gs)) ≡ cond b (group_from g) [] ++ filter is_asked (groups_from gs)
      by true is rest = ap (λ l. group_from g ++ l) rest
      by false is rest = rest

-- ---- where fields of one key are alike

-- whether the fields of a key are asked of the root type itself
abbrev pub own_key : List Field → Text → Bool
own_key fs k = option_map_or is_own (find (has_key k) fs) false

found-first : (k : Text) (fs : List Field) (f : Field) → find (has_key k) fs ≡ Some f → has_key k f ≡ true
found-first k [] f is = absurd (let e : None ≡ Some f = is in cc)
found-first k (x ∷ xs) f is = by (has_key k x) refl is (found-first k xs f)
  where
    by : (b : Bool) → has_key k x ≡ b → cond b (Some x) (find (has_key k) xs) ≡ Some f → (find (has_key k) xs ≡ Some f → has_key k f ≡ true) → has_key k f ≡ true
    by true here e rest = let same : x ≡ f = (let g : Some x ≡ Some f = e in cc) in subst (λ y. has_key k y ≡ true) same here
    by false here e rest = rest e

-- what holds of all holds of what is found
found-holds : (P : Field → Type 0) (p : Field → Bool) (fs : List Field) (f : Field) → AllByRecursion P fs → find p fs ≡ Some f → P f
found-holds P p [] f all is = absurd (let e : None ≡ Some f = is in cc)
found-holds P p (x ∷ xs) f all is = by (p x) is (found-holds P p xs f all.1)
  where
    by : (b : Bool) → cond b (Some x) (find p xs) ≡ Some f → (find p xs ≡ Some f → P f) → P f
    by true e rest = subst P (let g : Some x ≡ Some f = e in let same : x ≡ f = cc in same) all.0
    by false e rest = rest e

module _ (all : List Field) where
  -- one field beside the first of its key
  told-one : (f : Field) → AllByRecursion (IsLike f) all → (o : Option Field) → find (has_key (response_key f)) all ≡ o → ¬ (o ≡ None) → is_own f ≡ option_map_or is_own o false
  told-one f like None is some = absurd (some refl)
  told-one f like (Some g) is some =
      let same : response_key f ≡ response_key g = text-same (response_key f) (response_key g) (found-first (response_key f) all g is) in
      let alike : IsLike f g = found-holds (IsLike f) (has_key (response_key f)) all g like is in
      ap not (alike same)

  -- each field of a list is found in it
  is-found : (before after : List Field) (f : Field) → all ≡ before ++ f ∷ after → ¬ (find (has_key (response_key f)) all ≡ None)
  is-found before after f is none = there before (sym (ap (find (has_key (response_key f))) is) ∙ none)
    where
      there : (before : List Field) → find (has_key (response_key f)) (before ++ f ∷ after) ≡ None → ⊥
      there [] e = let g : Some f ≡ None = sym (ap (λ b. cond b (Some f) (find (has_key (response_key f)) after)) (text-itself (response_key f))) ∙ e in cc
      there (x ∷ xs) e = by (has_key (response_key f) x) e (there xs)
        where
          by : (b : Bool) → cond b (Some x) (find (has_key (response_key f)) (xs ++ f ∷ after)) ≡ None → (find (has_key (response_key f)) (xs ++ f ∷ after) ≡ None → ⊥) → ⊥
          by true e rest = let g : Some x ≡ None = e in cc
          by false e rest = rest e

  told-all : (before fs : List Field) → all ≡ before ++ fs → AllByRecursion (λ one. AllByRecursion (IsLike one) all) fs → AllByRecursion (IsTold (own_key all)) fs
  told-all before [] is like = tt
  told-all before (f ∷ fs) is like = (
    told-one f like.0 (find (has_key (response_key f)) all) refl (is-found before fs f is),
    told-all (before ++ f ∷ []) fs (is ∙ sym (append-one before f fs)) like.1,
  )
    where
      append-one : (xs : List Field) (y : Field) (ys : List Field) → (xs ++ y ∷ []) ++ ys ≡ xs ++ y ∷ ys
      append-one [] y ys = refl
      append-one (x ∷ xs) y ys = ap (λ l. x ∷ l) (append-one xs y ys)

  pub all-told : AreLike all → AllByRecursion (IsTold (own_key all)) all
  all-told like = told-all [] all refl like

  at-led : (ks : List Text) → AllByRecursion (IsLed (own_key all)) (map (group_at all) ks)
  at-led [] = tt
  at-led (k ∷ ks) = ((λ f is. ap (λ o. option_map_or is_own o false) is), at-led ks)

  filter-all : {A : Type 0} (P : A → Type 0) (p : A → Bool) (xs : List A) → AllByRecursion P xs → AllByRecursion P (filter p xs)
  filter-all P p [] each = tt
  filter-all P p (x ∷ xs) each = by (p x) (filter-all P p xs each.1)
    where
      by : (b : Bool) → AllByRecursion P (filter p xs) → AllByRecursion P (cond b (x ∷ filter p xs) (filter p xs))
      by true rest = (each.0, rest)
      by false rest = rest

  pub all-led : (p : FieldGroup → Bool) → AllByRecursion (IsLed (own_key all)) (filter p (groups_of all))
  all-led p = filter-all (IsLed (own_key all)) p (groups_of all) (at-led (keys all))

-- the groups of the concrete part are those whose first field has no name of introspection
pub concrete-groups : (s : Setting) (rank : ℕ → ℕ) → AreRanked s.fragments rank → (xs : List Selection) → IsSpreadless xs → IsPure s xs
    → groups_from (applying s (concrete xs ∷ [])) ≡ filter (λ g. not (is_meta g)) (groups_from (applying s (xs ∷ [])))
concrete-groups s rank ranked xs none pure =
    let fs = flat s xs in
    let q = own_key fs in
    let defined = is_defined s.schema s.object in
    ap (λ l. groups_from (filter defined (groups_of l))) (append-nil (flat s (concrete xs)) ∙ flat-concrete s rank ranked xs none)
    ∙ ap (λ gs. groups_from (filter defined gs)) (groups-kept q fs (all-told fs pure))
    ∙ ap groups_from (filter-turned defined (kept_group q) (groups_of fs))
    ∙ from-kept q (filter defined (groups_of fs)) (all-led fs defined)
    ∙ sym (ap (λ l. filter (λ g. not (is_meta g)) (groups_from (filter defined (groups_of l)))) (append-nil fs))

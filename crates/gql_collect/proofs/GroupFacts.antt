-- Groups of fields: one field more, and fields that are the same once repeats are left out.
use Rattle.std.proofs.Common.{arith, ◌≡◌, ℕ, zero, suc, ◌+◌, ◌<◌, Bool, true, false, cond, ◌||◌, if◌then◌else◌, List, [], ◌∷◌, ◌++◌, map, length, get_or, take, add-one, Option, Some, None, refl, sym, ap, ◌∙◌, subst, Bor}
use Rattle.std.specs.List.{find, filter, list_any}
use Rattle.std.specs.Option.{option_or, option_map_or}
use Rattle.std.specs.Str.{bytes_eq}
use Rattle.std.proofs.lemmas.List.{append-nil, map-append}
use Rattle.std.proofs.lemmas.List.Elements.{filter-append}
use Rattle.std.proofs.lemmas.List.Folds.{find-append}
use Rattle.gql_document_types.specs.declared.selection.Field.{Field}
use Rattle.gql_document_types.specs.declared.selection.Selection.{Selection}
use Rattle.gql_schema_types.specs.declared.schema.Schema.{Schema}
use Rattle.gql_schema_types.specs.declared.types.ObjectType.{ObjectType}
use Rattle.gql_collect.specs.Flat.{flat_sets}
use Rattle.gql_collect.specs.bridge.Grouping.{begun, added}
use Rattle.gql_collect.specs.Groups.{response_key, has_key, distinct_after, keys, FieldGroup, group_at, groups_of, has_field, is_defined, applying, SameGroups, none_same, one_same}
use Rattle.gql_collect.specs.Same.{SameFirst}
use Rattle.gql_collect.specs.Setting.{Setting}
use Rattle.gql_collect.specs.Walk.{fields_of}
use Rattle.gql_collect.proofs.Keys.{Text, has, text-same, text-turned, text-itself, keys-same, distinct-more, distinct-has, AreDistinct, are-distinct}
use Rattle.gql_collect.proofs.SameFacts.{same-filter, same-map}

-- ---- one field more

has-map : (k : Text) (fs : List Field) → has k (map response_key fs) ≡ list_any (has_key k) fs
has-map k [] = refl
has-map k (f ∷ fs) = ap (λ b. bytes_eq k (response_key f) || b) (has-map k fs)

module _ {A : Type 0} (p : A → Bool) where
  find-absent : (xs : List A) → list_any p xs ≡ false → find p xs ≡ None
  find-absent [] none = refl
  find-absent (x ∷ xs) none = by (p x) none (find-absent xs)
    where
      by : (b : Bool) → (b || list_any p xs) ≡ false → (list_any p xs ≡ false → find p xs ≡ None) → cond b (Some x) (find p xs) ≡ None
      by true e rest = absurd (let f : true ≡ false = e in cc)
      by false e rest = rest e

  filter-absent : (xs : List A) → list_any p xs ≡ false → filter p xs ≡ []
  filter-absent [] none = refl
  filter-absent (x ∷ xs) none = by (p x) none (filter-absent xs)
    where
      by : (b : Bool) → (b || list_any p xs) ≡ false → (list_any p xs ≡ false → filter p xs ≡ []) → cond b (x ∷ filter p xs) (filter p xs) ≡ []
      by true e rest = absurd (let f : true ≡ false = e in cc)
      by false e rest = rest e

  find-present : (xs : List A) (o : Option A) → list_any p xs ≡ true → option_or (find p xs) o ≡ find p xs
  find-present [] o some = absurd (let f : false ≡ true = some in cc)
  find-present (x ∷ xs) o some = by (p x) some (find-present xs o)
    where
      by : (b : Bool) → (b || list_any p xs) ≡ true → (list_any p xs ≡ true → option_or (find p xs) o ≡ find p xs) → option_or (cond b (Some x) (find p xs)) o ≡ cond b (Some x) (find p xs)
      by true e rest = refl
      by false e rest = rest e

abbrev group : Text → Option Field → List Field → FieldGroup
group key first fields = record { key = key; first = first; fields = fields }

module _ (fs : List Field) (f : Field) where
  abbrev k : Text
  k = response_key f

  abbrev more : List Field
  more = fs ++ f ∷ []

  -- the group of another key stays as it is
  group-other : (j : Text) → bytes_eq k j ≡ false → group_at fs j ≡ group_at more j
  group-other j other =
      let out : has_key j f ≡ false = text-turned j k ∙ other in
      sym (ap (λ (first : Option Field). group j first (filter (has_key j) more)) (find-append (has_key j) fs (f ∷ []) ∙ ap (λ b. option_or (find (has_key j) fs) (cond b (Some f) None)) out ∙ or-none (find (has_key j) fs))
      ∙ ap (λ (fields : List Field). group j (find (has_key j) fs) fields) (filter-append (has_key j) fs (f ∷ []) ∙ ap (λ b. filter (has_key j) fs ++ cond b (f ∷ []) []) out ∙ append-nil (filter (has_key j) fs)))
    where
      or-none : (o : Option Field) → option_or o None ≡ o
      or-none None = refl
      or-none (Some x) = refl

  -- the group of its key has it last
  group-own : (j : Text) → bytes_eq k j ≡ true → list_any (has_key k) fs ≡ true → record (group_at fs j) { fields = filter (has_key j) fs ++ f ∷ [] } ≡ group_at more j
  group-own j own some =
      let in_it : has_key j f ≡ true = text-turned j k ∙ own in
      let there : list_any (has_key j) fs ≡ true = ap (λ i. list_any (has_key i) fs) (sym (text-same k j own)) ∙ some in
      sym (ap (λ (first : Option Field). group j first (filter (has_key j) more)) (find-append (has_key j) fs (f ∷ []) ∙ find-present (has_key j) fs (find (has_key j) (f ∷ [])) there)
      ∙ ap (λ (fields : List Field). group j (find (has_key j) fs) fields) (filter-append (has_key j) fs (f ∷ []) ∙ ap (λ b. filter (has_key j) fs ++ cond b (f ∷ []) []) in_it))

  -- and a new key begins one
  group-new : list_any (has_key k) fs ≡ false → begun f ≡ group_at more k
  group-new none =
      let in_it : has_key k f ≡ true = itself k in
      sym (ap (λ (first : Option Field). group k first (filter (has_key k) more)) (find-append (has_key k) fs (f ∷ []) ∙ ap (λ o. option_or o (find (has_key k) (f ∷ []))) (find-absent (has_key k) fs none) ∙ ap (λ b. cond b (Some f) None) in_it)
      ∙ ap (λ (fields : List Field). group k (Some f) fields) (filter-append (has_key k) fs (f ∷ []) ∙ ap (λ l. l ++ filter (has_key k) (f ∷ [])) (filter-absent (has_key k) fs none) ∙ ap (λ b. cond b (f ∷ []) []) in_it))
    where
      itself : (x : Text) → bytes_eq x x ≡ true
      itself x = text-itself x

  others : (js : List Text) → has k js ≡ false → map (group_at fs) js ≡ map (group_at more) js
  others [] absent = refl
  others (j ∷ js) absent = by (bytes_eq k j) refl absent (others js)
    where
      by : (b : Bool) → bytes_eq k j ≡ b → (b || has k js) ≡ false → (has k js ≡ false → map (group_at fs) js ≡ map (group_at more) js) → map (group_at fs) (j ∷ js) ≡ map (group_at more) (j ∷ js)
      by true is e rest = absurd (let g : true ≡ false = e in cc)
      by false is e rest = ap (λ g. g ∷ map (group_at fs) js) (group-other j is) ∙ ap (λ l. group_at more j ∷ l) (rest e)

  to-old : (js : List Text) → AreDistinct js → has k js ≡ true → list_any (has_key k) fs ≡ true → added (map (group_at fs) js) f ≡ map (group_at more) js
  to-old [] distinct there some = absurd (let g : false ≡ true = there in cc)
  to-old (j ∷ js) distinct there some = by (bytes_eq k j) refl there (to-old js distinct.1)
    where
      by : (b : Bool) → bytes_eq k j ≡ b → (b || has k js) ≡ true → (has k js ≡ true → list_any (has_key k) fs ≡ true → added (map (group_at fs) js) f ≡ map (group_at more) js)
          → (if b then record (group_at fs j) { fields = filter (has_key j) fs ++ f ∷ [] } ∷ map (group_at fs) js else group_at fs j ∷ added (map (group_at fs) js) f) ≡ map (group_at more) (j ∷ js)
      by true is e rest =
          ap (λ g. g ∷ map (group_at fs) js) (group-own j is some)
          ∙ ap (λ l. group_at more j ∷ l) (others js (ap (λ i. has i js) (text-same k j is) ∙ distinct.0))
      by false is e rest = ap (λ g. g ∷ added (map (group_at fs) js) f) (group-other j is) ∙ ap (λ l. group_at more j ∷ l) (rest e some)

  to-new : (js : List Text) → has k js ≡ false → list_any (has_key k) fs ≡ false → added (map (group_at fs) js) f ≡ map (group_at more) js ++ group_at more k ∷ []
  to-new [] absent none = ap (λ g. g ∷ []) (group-new none)
  to-new (j ∷ js) absent none = by (bytes_eq k j) refl absent (to-new js)
    where
      by : (b : Bool) → bytes_eq k j ≡ b → (b || has k js) ≡ false → (has k js ≡ false → list_any (has_key k) fs ≡ false → added (map (group_at fs) js) f ≡ map (group_at more) js ++ group_at more k ∷ [])
          → (if b then record (group_at fs j) { fields = filter (has_key j) fs ++ f ∷ [] } ∷ map (group_at fs) js else group_at fs j ∷ added (map (group_at fs) js) f)
          ≡ map (group_at more) (j ∷ js) ++ group_at more k ∷ []
      by true is e rest = absurd (let g : true ≡ false = e in cc)
      by false is e rest = ap (λ g. g ∷ added (map (group_at fs) js) f) (group-other j is) ∙ ap (λ l. group_at more j ∷ l) (rest e none)

  keys-more : keys more ≡ keys fs ++ (if list_any (has_key k) fs then [] else k ∷ [])
  keys-more =
      ap (distinct_after []) (map-append response_key fs (f ∷ [])) ∙ distinct-more (map response_key fs) [] k
      ∙ ap (λ b. keys fs ++ (if b then [] else k ∷ [])) (has-map k fs)

  pub groups-more : added (groups_of fs) f ≡ groups_of more
  groups-more = by (list_any (has_key k) fs) refl
    where
      there : has k (keys fs) ≡ list_any (has_key k) fs
      there = distinct-has (map response_key fs) [] k refl ∙ has-map k fs

      by : (b : Bool) → list_any (has_key k) fs ≡ b → added (groups_of fs) f ≡ groups_of more
      by true some =
          to-old (keys fs) (are-distinct (map response_key fs) []) (there ∙ some) some
          ∙ sym (ap (map (group_at more)) (keys-more ∙ ap (λ b. keys fs ++ (if b then [] else k ∷ [])) some ∙ append-nil (keys fs)))
      by false none =
          to-new (keys fs) (there ∙ none) none
          ∙ sym (ap (map (group_at more)) (keys-more ∙ ap (λ b. keys fs ++ (if b then [] else k ∷ [])) none) ∙ map-append (group_at more) (keys fs) (k ∷ []))

fields-suc : (xs : List (Bor Field)) (i : ℕ) (x : Bor Field) → i < length xs → x ≡ get_or xs i x → fields_of (take (suc i) xs) ≡ fields_of (take i xs) ++ x.now ∷ []
fields-suc [] i x within is = absurd (omega arith)
fields-suc (y ∷ ys) zero x within is = ap (λ (z : Bor Field). z.now ∷ []) (sym is)
fields-suc (y ∷ ys) (suc i) x within is = ap (λ l. y.now ∷ l) (fields-suc ys i x (omega (arith, within)) is)

-- the fields up to one more of them
pub fields-more : (xs : List (Bor Field)) (i : ℕ) (x : Bor Field) → i < length xs → x ≡ get_or xs i x → fields_of (take (i + 1) xs) ≡ fields_of (take i xs) ++ x.now ∷ []
fields-more xs i x within is = rw (add-one i) (fields-suc xs i x within is)

-- ---- the same groups

same-at : (xs ys : List Field) → SameFirst xs ys → (ks : List Text) → SameGroups (map (group_at xs) ks) (map (group_at ys) ks)
same-at xs ys same [] = none_same
same-at xs ys same (k ∷ ks) = one_same refl (same (has_key k)) (same-filter (has_key k) xs ys same) (same-at xs ys same ks)

-- fields that are the same once repeats are left out have the same groups
pub groups-same : (xs ys : List Field) → SameFirst xs ys → SameGroups (groups_of xs) (groups_of ys)
groups-same xs ys same =
    subst (λ ks. SameGroups (groups_of xs) (map (group_at ys) ks)) (keys-same (map response_key xs) (map response_key ys) (same-map response_key xs ys same))
    (same-at xs ys same (keys xs))

pub defined-same : (schema : Schema) (object : ObjectType) {gs hs : List FieldGroup} → SameGroups gs hs → SameGroups (filter (is_defined schema object) gs) (filter (is_defined schema object) hs)
defined-same schema object none_same = none_same
defined-same schema object (one_same {g = g} {h = h} {gs = gs} {hs = hs} key first fields rest) =
    subst (λ b. SameGroups (filter (is_defined schema object) (g ∷ gs)) (cond b (h ∷ filter (is_defined schema object) hs) (filter (is_defined schema object) hs)))
    (ap (λ o. option_map_or (has_field schema object) o false) first)
    (by (is_defined schema object g) (defined-same schema object rest))
  where
    by : (b : Bool) → SameGroups (filter (is_defined schema object) gs) (filter (is_defined schema object) hs)
        → SameGroups (cond b (g ∷ filter (is_defined schema object) gs) (filter (is_defined schema object) gs)) (cond b (h ∷ filter (is_defined schema object) hs) (filter (is_defined schema object) hs))
    by true below = one_same key first fields below
    by false below = below

pub collected-same : (s : Setting) (sets : List (List Selection)) (fields : List Field) (groups kept : List FieldGroup) → SameFirst fields (flat_sets s sets)
    → groups ≡ groups_of fields → kept ≡ filter (is_defined s.schema s.object) groups → SameGroups kept (applying s sets)
collected-same s sets fields groups kept same grouped defined =
    subst (λ l. SameGroups l (applying s sets)) (sym (defined ∙ ap (filter (is_defined s.schema s.object)) grouped))
    (defined-same s.schema s.object (groups-same fields (flat_sets s sets) same))

-- What is selected below a group goes less deep, where no fragment leads back to itself.
use Rattle.std.proofs.Common.{arith, ◌≡◌, ℕ, zero, suc, ◌<◌, ◌≤◌, max, ltb, Bool, true, false, cond, not, ◌&&◌, List, [], ◌∷◌, ◌++◌, map, length, Option, Some, None, is_some, slice_get, refl, sym, ap, ◌∙◌, subst, lt-ltb, ltb-true}
use Rattle.std.specs.List.{AllByRecursion, find, filter}
use Rattle.std.specs.Option.{option_map, option_map_or}
use Rattle.std.proofs.Math.Nat.{le-max_left, le-max_right, max-le}
use Rattle.std.proofs.lemmas.List.{length-map}
use Rattle.std.proofs.lemmas.Option.{slice_get-map}
use Rattle.gql_document_types.specs.RootFields.{fragment_name}
use Rattle.gql_document_types.specs.Spreads.{spreads_in, spread_graph}
use Rattle.gql_document_types.specs.declared.fragment.Fragment.{Fragment}
use Rattle.gql_document_types.specs.declared.selection.Field.{Field}
use Rattle.gql_document_types.specs.declared.selection.FragmentSpread.{FragmentSpread}
use Rattle.gql_document_types.specs.declared.selection.InlineFragment.{InlineFragment}
use Rattle.gql_document_types.specs.declared.selection.Selection.{Selection, out-Selection}
use Rattle.gql_document_types.specs.declared.selection.Selection.TheVariants as selection
use Rattle.gql_schema_types.specs.Schemas.{field_of as field_of_type}
use Rattle.gql_schema_types.specs.declared.types.ObjectType.{ObjectType}
use Rattle.gql_collect.specs.Expanded.{most}
use Rattle.gql_collect.specs.Nested.{Nested, nothing, field_then, spread_then, inline_then, Fragments, Place, body_in, body_of}
use Rattle.gql_collect.specs.bridge.Nested.{IsBelow as IsRankedBelow, AreRanked as AreNestedRanked}
use Rattle.gql_collect.specs.View.{One, one_field, one_spread, one_inline, then_more, spread_of, number_of, one_of, nested, body_nested, fragments_nested}
use Rattle.gql_collect.proofs.Ranked.{fragments-ranked}
use Rattle.gql_collect.proofs.Views.{view-field, view-spread, view-inline, view-inside, view-node}
use Rattle.gql_collect.specs.Applies.{applies, applies_if}
use Rattle.gql_collect.specs.Flat.{when, contents, body, field_of, opened, flat_within, enough, flat, flat_sets}
use Rattle.gql_collect.specs.Groups.{has_key, keys, FieldGroup, group_at, has_field, is_defined, applying, SameGroups, none_same, one_same}
use Rattle.gql_collect.specs.Kept.{is_kept}
use Rattle.gql_document_types.specs.Ranks.{AreRanked}
use Rattle.gql_collect.specs.Same.{SameFirst}
use Rattle.gql_collect.specs.Setting.{Setting}
use Rattle.gql_collect.proofs.Numbers.{body-is, body-none}
use Rattle.gql_document_types.proofs.Variants.{out-field, out-spread, out-inline, each}
use Rattle.gql_graph.specs.Ranks.{IsRanked}
use Rattle.gql_resolvers.specs.Depth.{AllGroups, Suffices}
use Rattle.gql_resolvers.specs.World.{World}
use Rattle.gql_exec.specs.Group.{Group, piece_of, pieces_of, started, groups_from}
use Rattle.gql_exec.specs.Nesting.{nesting_with, fragment_nesting, nesting_in, nesting, AllBelow}
use Rattle.gql_exec.specs.Request.{Request}
use Rattle.gql_exec.specs.RequestWorld.{setting_on, plain_world}

-- ---- fragments inside one another, as many as there are

module _ (table : Fragments) (rank : ℕ → ℕ) (ranked : AreNestedRanked table rank) where
  abbrev IsFixed : ℕ → Type 0
  IsFixed n = (f : ℕ) → rank f < n → fragment_nesting table n f ≡ fragment_nesting table (suc n) f

  fixed_with : (n : ℕ) → IsFixed n → (r : ℕ) (t : Nested) → IsRankedBelow rank r t → r ≤ n
      → nesting_with (fragment_nesting table n) t ≡ nesting_with (fragment_nesting table (suc n)) t
  fixed_with n fixed r nothing below small = refl
  fixed_with n fixed r (field_then weight place within rest) below small =
      ap (λ k. max (suc k) (nesting_with (fragment_nesting table n) rest)) (fixed_with n fixed r within below.0 small)
      ∙ ap (max (suc (nesting_with (fragment_nesting table (suc n)) within))) (fixed_with n fixed r rest below.1 small)
  fixed_with n fixed r (spread_then f place rest) below small =
      ap (λ k. max k (nesting_with (fragment_nesting table n) rest)) (fixed f (omega (arith, below.0, small)))
      ∙ ap (max (fragment_nesting table (suc n) f)) (fixed_with n fixed r rest below.1 small)
  fixed_with n fixed r (inline_then body rest) below small =
      ap (λ k. max k (nesting_with (fragment_nesting table n) rest)) (fixed_with n fixed r body below.0 small)
      ∙ ap (max (nesting_with (fragment_nesting table (suc n)) body)) (fixed_with n fixed r rest below.1 small)

  fixed_fragment : (n : ℕ) → IsFixed n
  fixed_fragment zero f small = absurd (omega (arith, small))
  fixed_fragment (suc n) f small = fixed_with n (fixed_fragment n) (rank f) (body_of table f) (ranked.bodies f) (omega (arith, small))

  -- a spread goes as deep as what its fragment is
  fragment-is : (f : ℕ) → fragment_nesting table (most table) f ≡ nesting_in table (body_of table f)
  fragment-is f = fixed_with (length table) (fixed_fragment (length table)) (rank f) (body_of table f) (ranked.bodies f) (ranked.bounded f)

pub graph-ranked : (all : List Fragment) (rank : ℕ → ℕ) → AreRanked all rank → IsRanked (spread_graph all) rank
graph-ranked all rank ranked = record { falls = ranked.falls; bounded = λ f. omega (arith, ranked.bounded f, length-map all (spreads_in all)) }

max-of : (table : Fragments) (one : One) (rest : Nested) → nesting_in table rest ≤ nesting_in table (then_more one rest)
max-of table (one_field weight place within) rest = le-max_right (suc (nesting_in table within)) (nesting_in table rest)
max-of table (one_spread f place) rest = le-max_right (fragment_nesting table (most table) f) (nesting_in table rest)
max-of table (one_inline body) rest = le-max_right (nesting_in table body) (nesting_in table rest)

-- ---- flat selections

module _ (s : Setting) (rank : ℕ → ℕ) (ranked : AreRanked s.fragments rank) where
  abbrev table : Fragments
  table = fragments_nested s.fragments

  abbrev deep : List Selection → ℕ
  deep xs = nesting_in table (nested s.fragments xs)

  abbrev IsDeep : ℕ → Field → Type 0
  IsDeep n f = deep (piece_of f) < n

  abbrev AreDeep : ℕ → List Field → Type 0
  AreDeep n fs = AllByRecursion (IsDeep n) fs

  deep-more : (n m : ℕ) → n ≤ m → (fs : List Field) → AreDeep n fs → AreDeep m fs
  deep-more n m less [] all = tt
  deep-more n m less (f ∷ fs) all = (omega (arith, less, all.0), deep-more n m less fs all.1)

  deep-append : (n : ℕ) (fs gs : List Field) → AreDeep n fs → AreDeep n gs → AreDeep n (fs ++ gs)
  deep-append n [] gs a b = b
  deep-append n (f ∷ fs) gs a b = (a.0, deep-append n fs gs a.1 b)

  deep-when : (n : ℕ) (b : Bool) (f : Field) → IsDeep n f → AreDeep n (when b (f ∷ []))
  deep-when n true f is = (is, tt)
  deep-when n false f is = tt

  deep-nil : (n m : ℕ) → AreDeep n (flat_within s m [])
  deep-nil n zero = tt
  deep-nil n (suc m) = tt

  when-less : (b : Bool) (xs : List Selection) → deep (when b xs) ≤ deep xs
  when-less true xs = omega arith
  when-less false xs = omega arith

  contents-less : (f : ℕ) → deep (contents s (slice_get s.fragments f)) ≤ fragment_nesting table (most table) f
  contents-less f =
      let inside = by (slice_get s.fragments f) in
      let there = ap (λ o. nesting_in table (body_in o)) (slice_get-map (body_nested s.fragments) s.fragments f) in
      omega (arith, inside, there, fragment-is table rank (fragments-ranked s.fragments rank (graph-ranked s.fragments rank ranked)) f)
    where
      by : (o : Option Fragment) → deep (contents s o) ≤ nesting_in table (body_in (option_map (body_nested s.fragments) o))
      by None = omega arith
      by (Some it) = when-less (applies s.schema.types s.object it.selection_set.ty.text) it.selection_set.selections

  -- what a spread is replaced by goes no deeper than the spread
  body-less : (it : FragmentSpread) (place : Place) (rest : Nested) (o : Option ℕ) → number_of s.fragments it.fragment_name ≡ o
      → deep (body s it.fragment_name.text) ≤ nesting_in table (then_more (spread_of o place) rest)
  body-less it place rest None is = omega (arith, ap deep (body-none s it.fragment_name.text is))
  body-less it place rest (Some f) is =
      omega (arith, ap deep (body-is s it.fragment_name.text f is), contents-less f, le-max_left (fragment_nesting table (most table) f) (nesting_in table rest))

  abbrev AllDeep : ℕ → Type 0
  AllDeep m = (xs : List Selection) → AreDeep (deep xs) (flat_within s m xs)

  one-deep : (m : ℕ) → AllDeep m → (rest : Nested) (x : Selection)
      → AreDeep (nesting_in table (then_more (one_of s.fragments x) rest)) (field_of s (out-Selection x) ++ flat_within s m (opened s (out-Selection x)))
  one-deep m inside rest =
      each (λ x. AreDeep (nesting_in table (then_more (one_of s.fragments x) rest)) (field_of s (out-Selection x) ++ flat_within s m (opened s (out-Selection x))))
      (λ f.
      let n = nesting_in table (then_more (one_of s.fragments (selection.Field f)) rest) in
      let small : IsDeep n f = omega (
        arith,
        le-max_left (suc (deep (piece_of f))) (nesting_in table rest),
        ap (λ o. nesting_in table (then_more o rest)) (view-field s.fragments f ∙ view-node s.fragments f),
      ) in
      subst (λ k. AreDeep n (field_of s k ++ flat_within s m (opened s k))) (sym (out-field f))
      (deep-append n (when (is_kept s.variables f.directives) (f ∷ [])) (flat_within s m []) (deep-when n (is_kept s.variables f.directives) f small) (deep-nil n m)))
      (λ it.
      let n = nesting_in table (then_more (one_of s.fragments (selection.FragmentSpread it)) rest) in
      let kept = is_kept s.variables it.directives in
      let less : deep (when kept (body s it.fragment_name.text)) ≤ n = omega (
        arith,
        when-less kept (body s it.fragment_name.text),
        body-less it it.location rest (number_of s.fragments it.fragment_name) refl,
        ap (λ o. nesting_in table (then_more o rest)) (view-spread s.fragments it),
      ) in
      subst (λ k. AreDeep n (field_of s k ++ flat_within s m (opened s k))) (sym (out-spread it))
      (deep-more (deep (when kept (body s it.fragment_name.text))) n less (flat_within s m (when kept (body s it.fragment_name.text))) (inside (when kept (body s it.fragment_name.text)))))
      (λ it.
      let n = nesting_in table (then_more (one_of s.fragments (selection.InlineFragment it)) rest) in
      let kept = is_kept s.variables it.directives && applies_if s.schema.types s.object it.type_condition in
      let less : deep (when kept it.selection_set.selections) ≤ n = omega (
        arith,
        when-less kept it.selection_set.selections,
        le-max_left (deep it.selection_set.selections) (nesting_in table rest),
        ap (λ o. nesting_in table (then_more o rest)) (view-inline s.fragments it ∙ view-inside s.fragments it),
      ) in
      subst (λ k. AreDeep n (field_of s k ++ flat_within s m (opened s k))) (sym (out-inline it))
      (deep-more (deep (when kept it.selection_set.selections)) n less (flat_within s m (when kept it.selection_set.selections)) (inside (when kept it.selection_set.selections))))

  all-deep : (m : ℕ) → AllDeep m → AllDeep (suc m)
  all-deep m inside [] = tt
  all-deep m inside (x ∷ xs) =
      deep-append (deep (x ∷ xs)) (field_of s (out-Selection x) ++ flat_within s m (opened s (out-Selection x))) (flat_within s (suc m) xs)
      (one-deep m inside (nested s.fragments xs) x)
      (deep-more (deep xs) (deep (x ∷ xs)) (max-of table (one_of s.fragments x) (nested s.fragments xs)) (flat_within s (suc m) xs) (all-deep m inside xs))

  within-deep : (m : ℕ) → AllDeep m
  within-deep zero xs = tt
  within-deep (suc m) xs = all-deep m (within-deep m) xs

  flat-deep : (xs : List Selection) → AreDeep (deep xs) (flat s xs)
  unfolding flat
  flat-deep xs = within-deep (enough s xs) xs

  pub sets-deep : (sets : List (List Selection)) → AreDeep (nesting s.fragments sets) (flat_sets s sets)
  sets-deep [] = tt
  sets-deep (set ∷ sets) =
      let n = nesting s.fragments (set ∷ sets) in
      deep-append n (flat s set) (flat_sets s sets)
      (deep-more (deep set) n (le-max_left (deep set) (nesting s.fragments sets)) (flat s set) (flat-deep set))
      (deep-more (nesting s.fragments sets) n (le-max_right (deep set) (nesting s.fragments sets)) (flat_sets s sets) (sets-deep sets))

  -- ---- groups

  pieces-less : (n : ℕ) (fs : List Field) → AreDeep (suc n) fs → nesting s.fragments (pieces_of fs) ≤ n
  pieces-less n [] all = omega arith
  pieces-less n (f ∷ fs) all = max-le (omega (arith, all.0)) (pieces-less n fs all.1)

  found-deep : (n : ℕ) (p : Field → Bool) (fs : List Field) (f : Field) → AreDeep n fs → find p fs ≡ Some f → IsDeep n f
  found-deep n p [] f all is = absurd (let e : None ≡ Some f = is in cc)
  found-deep n p (x ∷ xs) f all is = by (p x) is (found-deep n p xs f all.1)
    where
      by : (b : Bool) → cond b (Some x) (find p xs) ≡ Some f → (find p xs ≡ Some f → IsDeep n f) → IsDeep n f
      by true e rest = let same : x ≡ f = (let g : Some x ≡ Some f = e in cc) in subst (IsDeep n) same all.0
      by false e rest = rest e

  filter-deep : (n : ℕ) (p : Field → Bool) (fs : List Field) → AreDeep n fs → AreDeep n (filter p fs)
  filter-deep n p [] all = tt
  filter-deep n p (x ∷ xs) all = by (p x) (filter-deep n p xs all.1)
    where
      by : (b : Bool) → AreDeep n (filter p xs) → AreDeep n (cond b (x ∷ filter p xs) (filter p xs))
      by true rest = (all.0, rest)
      by false rest = rest

  abbrev is_shallow : ℕ → Field → Bool
  is_shallow n f = not (ltb (deep (piece_of f)) n)

  none-found : (n : ℕ) (fs : List Field) → AreDeep n fs → find (is_shallow n) fs ≡ None
  none-found n [] all = refl
  none-found n (f ∷ fs) all = ap (λ b. cond (not b) (Some f) (find (is_shallow n) fs)) (lt-ltb (deep (piece_of f)) n all.0) ∙ none-found n fs all.1

  all-found : (n : ℕ) (fs : List Field) → find (is_shallow n) fs ≡ None → AreDeep n fs
  all-found n [] none = tt
  all-found n (f ∷ fs) none = by (ltb (deep (piece_of f)) n) refl none (all-found n fs)
    where
      by : (b : Bool) → ltb (deep (piece_of f)) n ≡ b → cond (not b) (Some f) (find (is_shallow n) fs) ≡ None → (find (is_shallow n) fs ≡ None → AreDeep n fs) → AreDeep n (f ∷ fs)
      by true is e rest = (ltb-true (deep (piece_of f)) n is, rest e)
      by false is e rest = absurd (let g : Some f ≡ None = e in cc)

  same-deep : (n : ℕ) (fs gs : List Field) → SameFirst fs gs → AreDeep n gs → AreDeep n fs
  same-deep n fs gs same all = all-found n fs (same (is_shallow n) ∙ none-found n gs all)

  -- its fields go less deep, and the first of them is defined
  abbrev IsInner : ℕ → FieldGroup → Type 0
  IsInner n g = (f : Field) → g.first ≡ Some f → IsDeep n f × AreDeep n g.fields × (is_some (field_of_type s.schema s.object.name.text f.name.text) ≡ true)

  abbrev AreInner : ℕ → List FieldGroup → Type 0
  AreInner n gs = AllByRecursion (IsInner n) gs

  inner-groups : (n : ℕ) (fields : List Field) → AreDeep n fields → (ks : List (List ℕ)) → AreInner n (filter (is_defined s.schema s.object) (map (group_at fields) ks))
  inner-groups n fields all [] = tt
  inner-groups n fields all (k ∷ ks) = by (is_defined s.schema s.object (group_at fields k)) refl (inner-groups n fields all ks)
    where
      by : (b : Bool) → is_defined s.schema s.object (group_at fields k) ≡ b → AreInner n (filter (is_defined s.schema s.object) (map (group_at fields) ks))
          → AreInner n (cond b (group_at fields k ∷ filter (is_defined s.schema s.object) (map (group_at fields) ks)) (filter (is_defined s.schema s.object) (map (group_at fields) ks)))
      by true is rest = (
        λ f first. (
          found-deep n (has_key k) fields f all first,
          filter-deep n (has_key k) fields all,
          sym (ap (λ o. option_map_or (has_field s.schema s.object) o false) first) ∙ is,
        ),
        rest,
      )
      by false is rest = rest

  pub inner-applying : (sets : List (List Selection)) → AreInner (nesting s.fragments sets) (applying s sets)
  inner-applying sets = inner-groups (nesting s.fragments sets) (flat_sets s sets) (sets-deep sets) (keys (flat_sets s sets))

  inner-same : (n : ℕ) {gs hs : List FieldGroup} → SameGroups gs hs → AreInner n hs → AreInner n gs
  inner-same n none_same all = tt
  inner-same n (one_same {g = g} {h = h} key first fields rest) all = (
    λ f is. let it = all.0 f (sym first ∙ is) in (it.0, same-deep n g.fields h.fields fields it.1, it.2),
    inner-same n rest all.1,
  )

  below-pieces : (n : ℕ) (f : Field) (fs : List Field) → IsDeep n f → AreDeep n fs → nesting s.fragments (pieces_of fs) < n
  below-pieces zero f fs is all = absurd (omega (arith, is))
  below-pieces (suc n) f fs is all = omega (arith, pieces-less n fs all)

  all-below : (n : ℕ) (gs : List FieldGroup) → AreInner n gs → AllBelow s.schema s.object s.fragments n gs
  all-below n [] all = tt
  all-below n (g ∷ gs) all = (λ f is. let it = all.0 f is in (below-pieces n f g.fields it.0 it.1, it.2), all-below n gs all.1)

  pub groups-below : (gs : List FieldGroup) (sets : List (List Selection)) → SameGroups gs (applying s sets) → AllBelow s.schema s.object s.fragments (nesting s.fragments sets) gs
  groups-below gs sets same = all-below (nesting s.fragments sets) gs (inner-same (nesting s.fragments sets) same (inner-applying sets))

-- ---- how deep is enough

module _ {X : Type 0} (r : Request X) (rank : ℕ → ℕ) (ranked : AreRanked r.fragments rank) where
  abbrev w : World X ObjectType Group (List (List Selection))
  w = plain_world r

  none-left : (U : ObjectType) (gs : List FieldGroup) → AllBelow r.schema U r.fragments 0 gs → groups_from gs ≡ []
  none-left U [] all = refl
  none-left U (g ∷ gs) all = by g.first refl (none-left U gs all.1)
    where
      by : (o : Option Field) → g.first ≡ o → groups_from gs ≡ [] → started o g.fields ++ groups_from gs ≡ []
      by None is rest = rest
      by (Some f) is rest = absurd (let small = (all.0 f is).0 in omega (arith, small))

  all-suffice : (n m : ℕ) → m ≤ suc n → ((sets : List (List Selection)) → nesting r.fragments sets ≤ n → (W : ObjectType) → Suffices w n W sets)
      → (U : ObjectType) (gs : List FieldGroup) → AllBelow r.schema U r.fragments m gs → AllGroups w (λ g. (W : ObjectType) → Suffices w n W (w.below g)) (groups_from gs)
  all-suffice n m less inside U [] all = tt
  all-suffice n m less inside U (g ∷ gs) all = by g.first refl (all-suffice n m less inside U gs all.1)
    where
      by : (o : Option Field) → g.first ≡ o → AllGroups w (λ g. (W : ObjectType) → Suffices w n W (w.below g)) (groups_from gs)
          → AllGroups w (λ g. (W : ObjectType) → Suffices w n W (w.below g)) (started o g.fields ++ groups_from gs)
      by None is rest = rest
      by (Some f) is rest = (let small = (all.0 f is).0 in inside (pieces_of g.fields) (omega (arith, small, less)), rest)

  abbrev below-in : (U : ObjectType) (sets : List (List Selection)) → AllBelow r.schema U r.fragments (nesting r.fragments sets) (applying (setting_on r U) sets)
  below-in U sets = all-below (setting_on r U) rank ranked (nesting r.fragments sets) (applying (setting_on r U) sets) (inner-applying (setting_on r U) rank ranked sets)

  suffices-within : (n : ℕ) (sets : List (List Selection)) → nesting r.fragments sets ≤ n → (U : ObjectType) → Suffices w n U sets
  suffices-within zero sets less U =
      let none : nesting r.fragments sets ≡ 0 = omega (arith, less) in
      none-left U (applying (setting_on r U) sets) (subst (λ m. AllBelow r.schema U r.fragments m (applying (setting_on r U) sets)) none (below-in U sets))
  suffices-within (suc n) sets less U =
      all-suffice n (nesting r.fragments sets) less (suffices-within n) U (applying (setting_on r U) sets) (below-in U sets)

  pub suffices : (U : ObjectType) (sets : List (List Selection)) → Suffices w (nesting r.fragments sets) U sets
  suffices U sets = suffices-within (nesting r.fragments sets) sets (omega arith) U

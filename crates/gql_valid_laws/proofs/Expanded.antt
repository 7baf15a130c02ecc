-- The fields that are collected of expanded selections: the same, each expanded.
use Rattle.std.proofs.Common.{◌≡◌, ℕ, zero, suc, ◌&&◌, Bool, true, false, List, [], ◌∷◌, ◌++◌, map, Option, Some, None, position, slice_get, refl, sym, ap, ◌∙◌, subst}
use Rattle.std.specs.List.{AllByRecursion, flat_map}
use Rattle.std.proofs.lemmas.List.{append-nil, map-append}
use Rattle.std.proofs.lemmas.List.Concat.{flat_map-append}
use Rattle.gql_document_types.specs.RootFields.{fragment_name}
use Rattle.gql_document_types.specs.declared.fragment.Fragment.{Fragment}
use Rattle.gql_document_types.specs.declared.selection.Field.{Field}
use Rattle.gql_document_types.specs.declared.selection.FragmentSpread.{FragmentSpread}
use Rattle.gql_document_types.specs.declared.selection.InlineFragment.{InlineFragment}
use Rattle.gql_document_types.specs.declared.selection.Selection.{Selection, out-Selection}
use Rattle.gql_document_types.specs.declared.selection.Selection.TheVariants as selection
use Rattle.gql_schema_types.specs.Entries.{is_called}
use Rattle.gql_schema_types.specs.declared.schema.Schema.{Schema}
use Rattle.gql_schema_types.specs.declared.types.ObjectType.{ObjectType}
use Rattle.gql_schema_types.proofs.Lookups.{place_within}
use Rattle.gql_document_types.specs.Contents.{HaveContents}
use Rattle.gql_document_types.specs.Expanded.{in_place, contents, expanded}
use Rattle.gql_document_types.specs.bridge.Expanded.{expanded_one, expanded_field, expanded_inline}
use Rattle.gql_document_types.proofs.Counts.{entry-there, one-field, one-spread, one-inline, spread-defined, spread-undefined}
use Rattle.gql_collect.specs.Applies.{applies, applies_if}
use Rattle.gql_collect.specs.Flat.{Shape, when, contents as contents_of, field_of, opened, enough, flat, flat_within}
use Rattle.gql_collect.specs.Kept.{is_kept, Variables}
use Rattle.gql_collect.specs.Setting.{Setting}
use Rattle.gql_collect.proofs.Numbers.{body-is, body-none}
use Rattle.gql_collect.specs.Groups.{response_key}
use Rattle.gql_document_types.proofs.Variants.{out-field, out-spread, out-inline, each}
use Rattle.gql_valid_laws.proofs.Selections.{all-map}
use Rattle.gql_valid_laws.specs.Merge.{HaveOneName, AreOfOneName}

when-and : {A : Type 0} (a b : Bool) (xs : List A) → when (a && b) xs ≡ when a (when b xs)
when-and true b xs = refl
when-and false b xs = refl

-- no selections have no fields
flat-nothing : (s : Setting) (n : ℕ) → flat_within s n [] ≡ []
flat-nothing s zero = refl
flat-nothing s (suc n) = refl

-- what one selection gives
abbrev at_one : Setting → ℕ → Shape → List Field
at_one s n k = field_of s k ++ flat_within s n (opened s k)

module _ (fragments others : List Fragment) (schema : Schema) (object : ObjectType) (variables : Variables) (have : HaveContents fragments) where
  -- with the spreads, and without them in any document
  abbrev s : Setting
  s = record { fragments = fragments; schema = schema; object = object; variables = variables }

  abbrev t : Setting
  t = record { fragments = others; schema = schema; object = object; variables = variables }

  abbrev with_each : List Field → List Field
  with_each fields = map (expanded_field fragments) fields

  abbrev Agrees : ℕ → List Selection → Type 0
  Agrees n xs = flat_within t n (expanded fragments xs) ≡ with_each (flat_within s n xs)

  agrees-nothing : (n : ℕ) → flat_within t n [] ≡ with_each (flat_within s n [])
  agrees-nothing n = flat-nothing t n ∙ sym (ap with_each (flat-nothing s n))

  agrees-when : (n : ℕ) (b : Bool) (xs : List Selection) → Agrees n xs → flat_within t n (when b (expanded fragments xs)) ≡ with_each (flat_within s n (when b xs))
  agrees-when n true xs agrees = agrees
  agrees-when n false xs agrees = agrees-nothing n

  field-when : (b : Bool) (f : Field) → when b (expanded_field fragments f ∷ []) ≡ with_each (when b (f ∷ []))
  field-when true f = refl
  field-when false f = refl

  module _ (n : ℕ) (inside : (xs : List Selection) → Agrees n xs) where
    -- what stands in the place of a selection gives its fields, expanded
    abbrev AgreesAt : Selection → Type 0
    AgreesAt x = flat_map (λ y. at_one t n (out-Selection y)) (expanded_one fragments x) ≡ with_each (at_one s n (out-Selection x))

    -- one selection that stands there
    from-one : (x y : Selection) → expanded_one fragments x ≡ y ∷ [] → at_one t n (out-Selection y) ≡ with_each (at_one s n (out-Selection x)) → AgreesAt x
    from-one x y is agrees = ap (flat_map (λ z. at_one t n (out-Selection z))) is ∙ append-nil (at_one t n (out-Selection y)) ∙ agrees

    field-agrees : (f : Field) → AgreesAt (selection.Field f)
    field-agrees f =
        let b = is_kept variables f.directives in
        from-one (selection.Field f) (selection.Field (expanded_field fragments f)) (one-field fragments f)
        (ap (at_one t n) (out-field (expanded_field fragments f))
        ∙ ap (λ l. l ++ flat_within t n []) (field-when b f) ∙ ap (λ l. with_each (when b (f ∷ [])) ++ l) (agrees-nothing n)
        ∙ sym (map-append (expanded_field fragments) (when b (f ∷ [])) (flat_within s n []))
        ∙ sym (ap (λ k. with_each (at_one s n k)) (out-field f)))

    inline-agrees : (i : InlineFragment) → AgreesAt (selection.InlineFragment i)
    inline-agrees i =
        let b = is_kept variables i.directives && applies_if schema.types object i.type_condition in
        from-one (selection.InlineFragment i) (selection.InlineFragment (expanded_inline fragments i)) (one-inline fragments i)
        (ap (at_one t n) (out-inline (expanded_inline fragments i))
        ∙ agrees-when n b i.selection_set.selections (inside i.selection_set.selections)
        ∙ sym (ap (λ k. with_each (at_one s n k)) (out-inline i)))

    -- a spread of a fragment that is not defined
    undefined-agrees : (x : FragmentSpread) → position (is_called fragment_name x.fragment_name.text) fragments ≡ None → AgreesAt (selection.FragmentSpread x)
    undefined-agrees x none =
        let b = is_kept variables x.directives in
        ap (flat_map (λ z. at_one t n (out-Selection z))) (one-spread fragments x ∙ spread-undefined fragments x none)
        ∙ sym (ap with_each (ap (at_one s n) (out-spread x) ∙ ap (λ l. flat_within s n (when b l)) (body-none s x.fragment_name.text none) ∙ nothing b))
      where
        nothing : (b : Bool) → flat_within s n (when b []) ≡ []
        nothing true = flat-nothing s n
        nothing false = flat-nothing s n

    defined-agrees : (x : FragmentSpread) (f : ℕ) (it : Fragment) → position (is_called fragment_name x.fragment_name.text) fragments ≡ Some f → slice_get fragments f ≡ Some it
        → AgreesAt (selection.FragmentSpread x)
    defined-agrees x f it is there =
        let b = is_kept variables x.directives in
        let c = applies schema.types object it.selection_set.ty.text in
        let within = it.selection_set.selections in
        let made = in_place x it (contents fragments it) in
        from-one (selection.FragmentSpread x) (selection.InlineFragment made) (one-spread fragments x ∙ spread-defined fragments x f it is there)
        (ap (at_one t n) (out-inline made)
        ∙ ap (λ l. flat_within t n (when (b && c) l)) (have f it there)
        ∙ agrees-when n (b && c) within (inside within)
        ∙ ap (λ l. with_each (flat_within s n l)) (when-and b c within ∙ ap (when b) (sym (body-is s x.fragment_name.text f is ∙ ap (contents_of s) there)))
        ∙ sym (ap (λ k. with_each (at_one s n k)) (out-spread x)))

    spread-agrees : (x : FragmentSpread) (o : Option ℕ) → position (is_called fragment_name x.fragment_name.text) fragments ≡ o → AgreesAt (selection.FragmentSpread x)
    spread-agrees x None none = undefined-agrees x none
    spread-agrees x (Some f) is =
        let there = entry-there fragments f (place_within (is_called fragment_name x.fragment_name.text) fragments f is) in
        defined-agrees x f there.0 is there.1

    one-agrees : (x : Selection) → AgreesAt x
    one-agrees = each AgreesAt field-agrees (λ x. spread-agrees x _ refl) inline-agrees

    all-agree : (xs : List Selection) → Agrees (suc n) xs
    all-agree [] = refl
    all-agree (x ∷ xs) =
        flat_map-append (λ y. at_one t n (out-Selection y)) (expanded_one fragments x) (expanded fragments xs)
        ∙ ap (λ l. l ++ flat_within t (suc n) (expanded fragments xs)) (one-agrees x)
        ∙ ap (λ l. with_each (at_one s n (out-Selection x)) ++ l) (all-agree xs)
        ∙ sym (map-append (expanded_field fragments) (at_one s n (out-Selection x)) (flat_within s (suc n) xs))

  -- level by level, so no more need be known of how deep fragments are
  pub flat-agrees : (n : ℕ) (xs : List Selection) → Agrees n xs
  flat-agrees zero xs = refl
  flat-agrees (suc n) xs = all-agree n (flat-agrees n) xs

-- ---- so names are as they were

all-mapped : {A B : Type 0} (P : B → Type 0) (f : A → B) (xs : List A) → AllByRecursion (λ x. P (f x)) xs → AllByRecursion P (map f xs)
all-mapped P f [] each = tt
all-mapped P f (x ∷ xs) each = (each.0, all-mapped P f xs each.1)

module _ (fragments others : List Fragment) (schema : Schema) (object : ObjectType) (variables : Variables) (have : HaveContents fragments) where
  abbrev before : Setting
  before = record { fragments = fragments; schema = schema; object = object; variables = variables }

  abbrev after : Setting
  after = record { fragments = others; schema = schema; object = object; variables = variables }

  mapped-names : (fs : List Field) → AreOfOneName fs → AreOfOneName (map (expanded_field fragments) fs)
  mapped-names fs names =
      all-mapped (λ (f : Field). AllByRecursion (λ (g : Field). response_key f ≡ response_key g → HaveOneName f g) (map (expanded_field fragments) fs)) (expanded_field fragments) fs
      (all-map (λ (f : Field). AllByRecursion (λ (g : Field). response_key f ≡ response_key g → HaveOneName f g) fs)
      (λ (f : Field). AllByRecursion (λ (g : Field). response_key f ≡ response_key g → HaveOneName f g) (map (expanded_field fragments) fs))
      (λ f each. all-mapped (λ (g : Field). response_key f ≡ response_key g → HaveOneName f g) (expanded_field fragments) fs each) fs names)

  pub expanded-names : (xs : List Selection) → ((n : ℕ) → AreOfOneName (flat_within before n xs)) → AreOfOneName (flat after (expanded fragments xs))
  unfolding flat
  expanded-names xs names =
      let n = enough after (expanded fragments xs) in
      subst AreOfOneName (sym (flat-agrees fragments others schema object variables have n xs)) (mapped-names (flat_within before n xs) (names n))

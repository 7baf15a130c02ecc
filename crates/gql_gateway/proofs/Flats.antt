-- Flat selections of the concrete part are those of the whole that have no name of introspection.
use Rattle.std.proofs.Common.{arith, ◌≡◌, ℕ, zero, suc, ◌+◌, ◌<◌, ◌≤◌, ◌&&◌, Bool, true, false, cond, not, List, [], ◌∷◌, ◌++◌, length, refl, sym, ap, ◌∙◌, subst}
use Rattle.std.specs.List.{filter, flat_map, AllByRecursion}
use Rattle.std.proofs.lemmas.List.{append-nil}
use Rattle.std.proofs.lemmas.List.Concat.{flat_map-append}
use Rattle.std.proofs.lemmas.List.Elements.{filter-append}
use Rattle.gql_document_types.proofs.Variants.{out-field, out-inline}
use Rattle.gql_document_types.specs.declared.selection.Field.{Field}
use Rattle.gql_document_types.specs.declared.selection.InlineFragment.{InlineFragment}
use Rattle.gql_document_types.specs.declared.selection.Selection.{Selection, out-Selection}
use Rattle.gql_document_types.specs.declared.selection.Selection.TheOpen.{Selection-F}
use Rattle.gql_document_types.specs.declared.selection.Selection.TheVariants as selection
use Rattle.gql_collect.proofs.Numbers.{shape_own, own-shape}
use Rattle.gql_collect.specs.Applies.{applies_if}
use Rattle.gql_collect.specs.Flat.{Shape, when, field_of, opened, flat_within, flat, enough}
use Rattle.gql_collect.specs.Kept.{is_kept}
use Rattle.gql_document_types.specs.Ranks.{AreRanked}
use Rattle.gql_collect.specs.Setting.{Setting}
use Rattle.gql_collect.specs.Sizes.{size}
use Rattle.gql_gateway.specs.Concrete.{filled, concrete_at, concrete_within, concrete}
use Rattle.gql_gateway.specs.Pure.{spreadless_at, SpreadlessTo, IsSpreadless, is_meta_field}
use Rattle.gql_exec_laws.proofs.Steady.{flat-more}

-- a field that is asked of the root type itself
abbrev pub is_own : Field → Bool
is_own field = not (is_meta_field field)

abbrev pub own_fields : List Field → List Field
own_fields fields = filter is_own fields

when-own : (a b : Bool) (f : Field) → is_own f ≡ a → when b (when a (f ∷ [])) ≡ own_fields (when b (f ∷ []))
when-own a true f is = by a is
  where
    by : (a : Bool) → is_own f ≡ a → when a (f ∷ []) ≡ own_fields (f ∷ [])
    by true is = sym (ap (λ b. cond b (f ∷ []) []) is)
    by false is = sym (ap (λ b. cond b (f ∷ []) []) is)
when-own a false f is = nothing a
  where
    nothing : (a : Bool) → [] ≡ own_fields []
    nothing a = refl

module _ (s : Setting) where
  flat-nothing : (n : ℕ) → flat_within s n [] ≡ []
  flat-nothing zero = refl
  flat-nothing (suc n) = refl

  abbrev at_one : ℕ → Shape → List Field
  at_one n k = field_of s k ++ flat_within s n (opened s k)

  -- what is left gives the fields that are asked of the root type itself
  abbrev Agrees : ℕ → ℕ → List Selection → Type 0
  Agrees n m xs = flat_within s n (concrete_within m xs) ≡ own_fields (flat_within s n xs)

  when-agrees : (n : ℕ) (b : Bool) (xs ys : List Selection) → flat_within s n xs ≡ own_fields (flat_within s n ys)
      → flat_within s n (when b xs) ≡ own_fields (flat_within s n (when b ys))
  when-agrees n true xs ys agrees = agrees
  when-agrees n false xs ys agrees = flat-nothing n ∙ sym (ap own_fields (flat-nothing n))

  module _ (n : ℕ) where
    abbrev fields_of : List Selection → List Field
    fields_of xs = flat_map (λ y. at_one n (out-Selection y)) xs

    one-field : (f : Field) → at_one n (out-Selection (selection.Field f)) ≡ when (is_kept s.variables f.directives) (f ∷ [])
    one-field f =
        ap (at_one n) (out-field f) ∙ ap (λ l. when (is_kept s.variables f.directives) (f ∷ []) ++ l) (flat-nothing n)
        ∙ append-nil (when (is_kept s.variables f.directives) (f ∷ []))

    -- a field, or nothing in its place
    field-left : (b : Bool) (f : Field) → is_own f ≡ b → fields_of (when b (selection.Field f ∷ [])) ≡ own_fields (when (is_kept s.variables f.directives) (f ∷ []))
    field-left true f is =
        append-nil (at_one n (out-Selection (selection.Field f))) ∙ one-field f ∙ when-own true (is_kept s.variables f.directives) f is
    field-left false f is = nothing (is_kept s.variables f.directives)
      where
        nothing : (c : Bool) → [] ≡ own_fields (when c (f ∷ []))
        nothing true = when-own false true f is
        nothing false = refl

    -- an inline fragment with what is left in it, or nothing in its place
    inline-left : (it : InlineFragment) (xs : List Selection) → flat_within s n xs ≡ own_fields (flat_within s n it.selection_set.selections)
        → fields_of (filled it xs)
        ≡ own_fields (flat_within s n (when (is_kept s.variables it.directives && applies_if s.schema.types s.object it.type_condition) it.selection_set.selections))
    inline-left it [] agrees =
        let b = is_kept s.variables it.directives && applies_if s.schema.types s.object it.type_condition in
        nothing b ∙ when-agrees n b [] it.selection_set.selections agrees
      where
        nothing : (b : Bool) → [] ≡ flat_within s n (when b [])
        nothing true = sym (flat-nothing n)
        nothing false = sym (flat-nothing n)
    inline-left it (x ∷ xs) agrees =
        let b = is_kept s.variables it.directives && applies_if s.schema.types s.object it.type_condition in
        let made : InlineFragment = record it { selection_set = record it.selection_set { selections = x ∷ xs } } in
        append-nil (at_one n (out-Selection (selection.InlineFragment made)))
        ∙ ap (at_one n) (out-inline made)
        ∙ when-agrees n b (x ∷ xs) it.selection_set.selections agrees

    module _ (m : ℕ) (inside : (ys : List Selection) → size ys < m → SpreadlessTo m ys → Agrees n m ys) where
      shape-left : (k : Shape) → shape_own k < suc m → spreadless_at (SpreadlessTo m) k → fields_of (concrete_at (concrete_within m) k) ≡ own_fields (at_one n k)
      shape-left (Selection-F.Field it) small none =
          field-left (is_own it) it refl
          ∙ ap own_fields (sym (ap (λ l. when (is_kept s.variables it.directives) (it ∷ []) ++ l) (flat-nothing n) ∙ append-nil (when (is_kept s.variables it.directives) (it ∷ []))))
      shape-left (Selection-F.FragmentSpread it) small none = absurd none
      shape-left (Selection-F.InlineFragment it) small none =
          inline-left it (concrete_within m it.selection_set.selections) (inside it.selection_set.selections (omega (arith, small)) none)

      all-left : (xs : List Selection) → size xs < suc m → SpreadlessTo (suc m) xs → Agrees (suc n) (suc m) xs
      all-left [] small none = refl
      all-left (x ∷ xs) small none =
          let k = out-Selection x in
          flat_map-append (λ y. at_one n (out-Selection y)) (concrete_at (concrete_within m) k) (concrete_within (suc m) xs)
          ∙ ap (λ l. l ++ flat_within s (suc n) (concrete_within (suc m) xs)) (shape-left k (omega (arith, small, own-shape x)) none.0)
          ∙ ap (λ l. own_fields (at_one n k) ++ l) (all-left xs (omega (arith, small)) none.1)
          ∙ sym (filter-append is_own (at_one n k) (flat_within s (suc n) xs))

  agrees : (n m : ℕ) (xs : List Selection) → size xs < m → SpreadlessTo m xs → Agrees n m xs
  agrees zero m xs small none = refl
  agrees (suc n) zero xs small none = absurd (omega (arith, small))
  agrees (suc n) (suc m) xs small none = all-left n m (λ ys small none. agrees n m ys small none) xs small none

  turned : (a b : ℕ) → a + b ≡ b + a
  turned a b = omega arith

  pub flat-concrete : (rank : ℕ → ℕ) → AreRanked s.fragments rank → (xs : List Selection) → IsSpreadless xs → flat s (concrete xs) ≡ own_fields (flat s xs)
  unfolding concrete
  flat-concrete rank ranked xs none =
      let ys = concrete_within (suc (size xs)) xs in
      flat-more s rank ranked (enough s xs) ys
      ∙ agrees (enough s xs + enough s ys) (suc (size xs)) xs (omega arith) (none (suc (size xs)))
      ∙ ap (λ n. own_fields (flat_within s n xs)) (turned (enough s xs) (enough s ys))
      ∙ sym (ap own_fields (flat-more s rank ranked (enough s ys) xs))

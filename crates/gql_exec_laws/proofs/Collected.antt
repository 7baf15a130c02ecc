-- Flat selections, one selection after the other.
use Rattle.std.proofs.Common.{arith, ◌≡◌, ℕ, suc, ◌+◌, ◌*◌, Bool, true, false, ◌&&◌, List, [], ◌∷◌, ◌++◌, length, refl, sym, ap, ◌∙◌}
use Rattle.std.proofs.lemmas.List.{append-nil, length-map}
use Rattle.gql_document_types.specs.Ranks.{AreRanked}
use Rattle.gql_document_types.specs.Spreads.{spreads_in, spread_graph}
use Rattle.gql_document_types.specs.declared.fragment.Fragment.{Fragment}
use Rattle.gql_document_types.specs.declared.selection.Field.{Field}
use Rattle.gql_document_types.specs.declared.selection.FragmentSpread.{FragmentSpread}
use Rattle.gql_document_types.specs.declared.selection.InlineFragment.{InlineFragment}
use Rattle.gql_document_types.specs.declared.selection.Selection.{Selection, out-Selection}
use Rattle.gql_document_types.specs.declared.selection.Selection.TheVariants as selection
use Rattle.gql_document_types.proofs.Variants.{out-field, out-spread, out-inline}
use Rattle.gql_collect.specs.Applies.{applies_if}
use Rattle.gql_collect.specs.Flat.{Shape, when, body, field_of, opened, flat_within, enough, flat}
use Rattle.gql_collect.specs.Kept.{is_kept}
use Rattle.gql_collect.specs.Setting.{Setting}
use Rattle.gql_collect.specs.Sizes.{size, fragments_size}
use Rattle.gql_graph.specs.Ranks.{IsRanked}
use Rattle.gql_exec_laws.proofs.Steady.{flat-more}

-- ranks of a graph of spreads are those of the fragments
pub spreads-ranked : (all : List Fragment) (rank : ℕ → ℕ) → IsRanked (spread_graph all) rank → AreRanked all rank
spreads-ranked all rank ranked = record { falls = ranked.falls; bounded = λ f. omega (arith, ranked.bounded f, length-map all (spreads_in all)) }

module _ (s : Setting) where
  pub flat-none : flat s [] ≡ []
  unfolding flat
  flat-none = refl

  flat-when : (b : Bool) (xs : List Selection) → flat s (when b xs) ≡ when b (flat s xs)
  flat-when true xs = refl
  flat-when false xs = flat-none

  -- fields that stand for themselves, those of what stands in the place of a selection, and those of the rest
  abbrev parts_at : Shape → List Selection → List Field
  parts_at k rest = (field_of s k ++ flat s (opened s k)) ++ flat s rest

  module _ (rank : ℕ → ℕ) (ranked : AreRanked s.fragments rank) where
    flat-at : (n more : ℕ) (xs : List Selection) → more + enough s xs ≡ n → flat s xs ≡ flat_within s n xs
    flat-at n more xs is = flat-more s rank ranked more xs ∙ ap (λ k. flat_within s k xs) is

    pub flat-parts : (x : Selection) (xs : List Selection) → flat s (x ∷ xs) ≡ parts_at (out-Selection x) xs
    flat-parts x xs =
        let k = out-Selection x in
        let whole : ℕ = size (x ∷ xs) + suc (length s.fragments) * suc (fragments_size s.fragments) in
        let n : ℕ = (enough s (opened s k) + enough s xs) + whole in
        flat-at (suc n) (enough s (opened s k) + enough s xs) (x ∷ xs) (omega arith)
        ∙ ap (λ l. (field_of s k ++ l) ++ flat_within s (suc n) xs) (sym (flat-at n (enough s xs + whole) (opened s k) (omega arith)))
        ∙ ap (λ l. (field_of s k ++ flat s (opened s k)) ++ l) (sym (flat-at (suc n) (enough s (opened s k) + suc whole) xs (omega arith)))

    pub flat-field : (it : Field) (rest : List Selection)
        → flat s (selection.Field it ∷ rest) ≡ when (is_kept s.variables it.directives) (it ∷ []) ++ flat s rest
    flat-field it rest =
        let own = when (is_kept s.variables it.directives) (it ∷ []) in
        flat-parts (selection.Field it) rest ∙ ap (λ k. parts_at k rest) (out-field it)
        ∙ ap (λ l. (own ++ l) ++ flat s rest) flat-none ∙ ap (λ l. l ++ flat s rest) (append-nil own)

    pub flat-spread : (it : FragmentSpread) (rest : List Selection)
        → flat s (selection.FragmentSpread it ∷ rest)
        ≡ when (is_kept s.variables it.directives) (flat s (body s it.fragment_name.text)) ++ flat s rest
    flat-spread it rest =
        flat-parts (selection.FragmentSpread it) rest ∙ ap (λ k. parts_at k rest) (out-spread it)
        ∙ ap (λ l. l ++ flat s rest) (flat-when (is_kept s.variables it.directives) (body s it.fragment_name.text))

    pub flat-inline : (it : InlineFragment) (rest : List Selection)
        → flat s (selection.InlineFragment it ∷ rest)
        ≡ when (is_kept s.variables it.directives && applies_if s.schema.types s.object it.type_condition) (flat s it.selection_set.selections)
        ++ flat s rest
    flat-inline it rest =
        flat-parts (selection.InlineFragment it) rest ∙ ap (λ k. parts_at k rest) (out-inline it)
        ∙ ap (λ l. l ++ flat s rest)
        (flat-when (is_kept s.variables it.directives && applies_if s.schema.types s.object it.type_condition) it.selection_set.selections)

-- The fields that stand in a set, with those inside inline fragments and without those inside fields: what `@skip`, `@include` and
-- conditions say is not looked at.
use Rattle.std.specs.Prelude.{◌≤◌, ℕ, zero, suc, List, [], ◌∷◌, map}
use Rattle.std.specs.List.{flat_map}
use Rattle.gql_document_types.specs.declared.fragment.Fragment.{Fragment}
use Rattle.gql_document_types.specs.declared.selection.Field.{Field}
use Rattle.gql_document_types.specs.declared.selection.Selection.{Selection, out-Selection}
use Rattle.gql_document_types.specs.declared.selection.Selection.TheOpen.{Selection-F}
use Rattle.gql_collect.specs.Flat.{Shape}
use Rattle.gql_collect.specs.Sizes.{added, size}

-- those of one selection, by those of what is inside it
abbrev pub fields_at : (List Selection → List Field) → Shape → List Field
fields_at inside (Selection-F.Field it) = it ∷ []
fields_at inside (Selection-F.FragmentSpread it) = []
fields_at inside (Selection-F.InlineFragment it) = inside it.selection_set.selections

-- with fewer than n inline fragments inside one another
abbrev pub fields_within : ℕ → List Selection → List Field
fields_within zero selections = []
fields_within (suc n) selections = flat_map (λ x. fields_at (fields_within n) (out-Selection x)) selections

-- no more are inside one another than there are selections
unfoldable pub fields_in : List Selection → List Field
fields_in selections = fields_within (suc (size selections)) selections

-- those of several sets
abbrev pub fields_in_all : List (List Selection) → List Field
fields_in_all sets = flat_map fields_in sets

-- those of all fragments
abbrev pub fields_in_fragments : List Fragment → List Field
fields_in_fragments fragments = flat_map (λ (fragment : Fragment). fields_in fragment.selection_set.selections) fragments

abbrev pub weighed : (Field → ℕ) → List Field → ℕ
weighed w fields = added (map w fields)

-- Whatever a field weighs, these weigh no more than the others. So none of them stands there more often than among the others.
abbrev pub NoneMoreOften : List Field → List Field → Type 0
NoneMoreOften fields others = (w : Field → ℕ) → weighed w fields ≤ weighed w others

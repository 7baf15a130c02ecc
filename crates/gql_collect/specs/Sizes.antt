-- How many selections stand in a set, with those inside inline fragments and without those inside fields.
use Rattle.std.specs.Prelude.{ℕ, ◌+◌, List, [], ◌∷◌, map, length}
use Rattle.gql_document_types.specs.declared.fragment.Fragment.{Fragment}
use Rattle.gql_document_types.specs.declared.selection.Selection.{Selection, fold-Selection}
use Rattle.gql_document_types.specs.declared.selection.Selection.TheOpen.{Selection-F, Field-F, InlineFragment-F, SelectionSet-F}

abbrev own_selection : Selection-F ℕ ℕ ℕ ℕ → ℕ
own_selection (Selection-F.Field n) = 1
own_selection (Selection-F.FragmentSpread s) = 1
own_selection (Selection-F.InlineFragment n) = n

abbrev own_field : Field-F ℕ ℕ ℕ ℕ → ℕ
own_field field = 1

abbrev own_inline : InlineFragment-F ℕ ℕ ℕ ℕ → ℕ
own_inline fragment = 1 + fragment.selection_set

abbrev pub added : List ℕ → ℕ
added [] = 0
added (n ∷ ns) = n + added ns

abbrev own_set : SelectionSet-F ℕ ℕ ℕ ℕ → ℕ
own_set set = added set.selections

abbrev pub own : Selection → ℕ
own = fold-Selection ℕ ℕ ℕ ℕ own_selection own_field own_inline own_set

abbrev pub size : List Selection → ℕ
size selections = added (map own selections)

-- those of several sets
abbrev pub sets_size : List (List Selection) → ℕ
sets_size sets = added (map size sets)

-- those of the sets alone, without what is inside inline fragments
abbrev pub outer_size : List (List Selection) → ℕ
outer_size sets = added (map (λ (selections : List Selection). length selections) sets)

-- those of all fragments
abbrev pub fragments_size : List Fragment → ℕ
fragments_size fragments = added (map (λ (fragment : Fragment). size fragment.selection_set.selections) fragments)

-- Selections, their expansions, counts and spreads, one level at a time.
use Rattle.std.proofs.Common.{rules, ◌≡◌, ◌+◌, List, [], ◌∷◌}
use Rattle.gql_document_types.specs.Spreads.{number_of, numbers_at, spread_numbers}
use Rattle.gql_document_types.specs.declared.fragment.Fragment.{Fragment}
use Rattle.gql_document_types.specs.declared.selection.Field.{Field}
use Rattle.gql_document_types.specs.declared.selection.FragmentSpread.{FragmentSpread}
use Rattle.gql_document_types.specs.declared.selection.InlineFragment.{InlineFragment}
use Rattle.gql_document_types.specs.declared.selection.Selection.{Selection, the_lemmas}
use Rattle.gql_document_types.specs.declared.selection.Selection.TheVariants as selection
use Rattle.gql_document_types.specs.declared.selection.SelectionSet.{SelectionSet}
use Rattle.gql_document_types.specs.Count.{count_one, count}
use Rattle.gql_document_types.specs.Expanded.{spread_step, expand_one, expand_all}

-- a set, a field and an inline fragment with other selections
abbrev pub set_with : SelectionSet → List Selection → SelectionSet
set_with set selections = record set { selections = selections }

abbrev pub field_with : Field → List Selection → Field
field_with f selections = record f { selection_set = set_with f.selection_set selections }

abbrev pub inline_with : InlineFragment → List Selection → InlineFragment
inline_with i selections = record i { selection_set = set_with i.selection_set selections }

module _ (all : List Fragment) where
  pub numbers-field : (f : Field) → numbers_at all (selection.Field f) ≡ spread_numbers all f.selection_set.selections
  numbers-field f = search (rules, the_lemmas)

  pub numbers-spread : (s : FragmentSpread) → numbers_at all (selection.FragmentSpread s) ≡ number_of all s.fragment_name
  numbers-spread s = search (rules, the_lemmas)

  pub numbers-inline : (i : InlineFragment) → numbers_at all (selection.InlineFragment i) ≡ spread_numbers all i.selection_set.selections
  numbers-inline i = search (rules, the_lemmas)

  module _ (contents : Fragment → List Selection) where
    pub expand-field : (f : Field)
        → expand_one all contents (selection.Field f) ≡ selection.Field (field_with f (expand_all all contents f.selection_set.selections)) ∷ []
    expand-field f = search (rules, the_lemmas)

    pub expand-spread : (s : FragmentSpread) → expand_one all contents (selection.FragmentSpread s) ≡ spread_step all contents s
    expand-spread s = search (rules, the_lemmas)

    pub expand-inline : (i : InlineFragment)
        → expand_one all contents (selection.InlineFragment i) ≡ selection.InlineFragment (inline_with i (expand_all all contents i.selection_set.selections)) ∷ []
    expand-inline i = search (rules, the_lemmas)

pub count-field : (f : Field) → count_one (selection.Field f) ≡ 1 + count f.selection_set.selections
count-field f = search (rules, the_lemmas)

pub count-spread : (s : FragmentSpread) → count_one (selection.FragmentSpread s) ≡ 1
count-spread s = search (rules, the_lemmas)

pub count-inline : (i : InlineFragment) → count_one (selection.InlineFragment i) ≡ 1 + count i.selection_set.selections
count-inline i = search (rules, the_lemmas)

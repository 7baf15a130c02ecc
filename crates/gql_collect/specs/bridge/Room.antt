-- What only private clauses and proofs cite, beside `Room`.
use Rattle.std.specs.Prelude.{◌≤◌, ◌+◌, ℕ, zero, suc, List, [], ◌∷◌, ◌++◌}
use Rattle.std.specs.List.{flat_map}
use Rattle.gql_document_types.specs.declared.fragment.Fragment.{Fragment}
use Rattle.gql_document_types.specs.declared.selection.Field.{Field}
use Rattle.gql_document_types.specs.declared.selection.Selection.{Selection}
use Rattle.gql_collect.specs.Sizes.{fragments_size, sets_size}
use Rattle.gql_collect.specs.Standing.{NoneMoreOften, fields_in, fields_in_all, fields_in_fragments}
use Rattle.gql_collect.specs.Room.{all_selections}

-- what is selected below a field
abbrev pub set_below : Field → List Selection
set_below field = field.selection_set.selections

-- the fields that stand in a set, and in what is selected below them, so many levels down
abbrev pub fields_down : ℕ → List Selection → List Field
fields_down zero selections = []
fields_down (suc n) selections = flat_map (λ field. field ∷ fields_down n (set_below field)) (fields_in selections)

abbrev pub fields_down_fragments : ℕ → List Fragment → List Field
fields_down_fragments n fragments = flat_map (λ (fragment : Fragment). fields_down n fragment.selection_set.selections) fragments

-- The fields of these sets and of the fragments stand in the operation and the fragments, so many levels down, none of them
-- more often than there. And a collection of these sets looks at no more selections than there are.
pub record HasRoom (fragments : List Fragment) (operation : List Selection) (sets : List (List Selection)) : Type 0 where
  pub levels : ℕ
  pub fields : NoneMoreOften (fields_in_all sets ++ fields_in_fragments fragments)
      (fields_down levels operation ++ fields_down_fragments levels fragments)
  pub looks : sets_size sets + fragments_size fragments ≤ all_selections fragments operation

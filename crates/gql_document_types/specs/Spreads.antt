-- Fragments that spread each other: section 5.5.2.2 of GraphQL October 2021.
use Rattle.std.specs.Prelude.{◌≡◌, ℕ, Bool, true, false, List, [], ◌∷◌, ◌++◌, map, position, option_to_list}
use Rattle.gql_ast_base.specs.Names.{Named}
use Rattle.gql_graph.specs.Cycles.{IsOnCycle}
use Rattle.gql_graph.specs.Graph.{Graph}
use Rattle.gql_schema_types.specs.Entries.{is_called}
use Rattle.gql_document_types.specs.RootFields.{fragment_name}
use Rattle.gql_document_types.specs.declared.fragment.Fragment.{Fragment}
use Rattle.gql_document_types.specs.declared.selection.Selection.{Selection, fold-Selection}
use Rattle.gql_document_types.specs.declared.selection.Selection.TheOpen.{Selection-F, Field-F, InlineFragment-F, SelectionSet-F}

abbrev pub Numbers : Type 0
Numbers = List ℕ

abbrev pub all_numbers : List Numbers → Numbers
all_numbers [] = []
all_numbers (numbers ∷ others) = numbers ++ all_numbers others

module _ (fragments : List Fragment) where
  -- the number of the fragment of a name, if there is one
  abbrev pub number_of : Named → Numbers
  number_of name = option_to_list (position (is_called fragment_name name.text) fragments)

  abbrev pub selection_step : Selection-F Numbers Numbers Numbers Numbers → Numbers
  selection_step (Selection-F.Field numbers) = numbers
  selection_step (Selection-F.FragmentSpread it) = number_of it.fragment_name
  selection_step (Selection-F.InlineFragment numbers) = numbers

  abbrev pub field_step : Field-F Numbers Numbers Numbers Numbers → Numbers
  field_step it = it.selection_set

  abbrev pub inline_step : InlineFragment-F Numbers Numbers Numbers Numbers → Numbers
  inline_step it = it.selection_set

  abbrev pub set_step : SelectionSet-F Numbers Numbers Numbers Numbers → Numbers
  set_step it = all_numbers it.selections

  -- the fragments that a selection spreads, at every depth
  abbrev pub numbers_at : Selection → Numbers
  numbers_at = fold-Selection Numbers Numbers Numbers Numbers selection_step field_step inline_step set_step

  abbrev pub spread_numbers : List Selection → Numbers
  spread_numbers selections = all_numbers (map numbers_at selections)

  abbrev pub spreads_in : Fragment → Numbers
  spreads_in fragment = spread_numbers fragment.selection_set.selections

-- at each fragment the fragments that are spread in it
abbrev pub spread_graph : List Fragment → Graph
spread_graph fragments = map (spreads_in fragments) fragments

-- no fragment leads back to itself: section 5.5.2.2
abbrev pub AreAcyclic : List Fragment → Type 0
AreAcyclic fragments = (v : ℕ) → IsOnCycle (spread_graph fragments) v → ⊥

-- exactly where no fragment leads back to itself
pub record TellsAcyclic (fragments : List Fragment) (acyclic : Bool) : Type 0 where
  pub none : acyclic ≡ true → AreAcyclic fragments
  pub some : acyclic ≡ false → (v : ℕ) × IsOnCycle (spread_graph fragments) v

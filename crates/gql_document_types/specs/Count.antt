-- How many selections there are, at every depth.
use Rattle.std.specs.Prelude.{ℕ, ◌+◌, List, [], ◌∷◌, map}
use Rattle.gql_document_types.specs.declared.selection.Selection.{Selection, fold-Selection}
use Rattle.gql_document_types.specs.declared.selection.Selection.TheOpen.{Selection-F, Field-F, InlineFragment-F, SelectionSet-F}

abbrev pub added : List ℕ → ℕ
added [] = 0
added (n ∷ ns) = n + added ns

abbrev pub selection_step : Selection-F ℕ ℕ ℕ ℕ → ℕ
selection_step (Selection-F.Field n) = n
selection_step (Selection-F.FragmentSpread it) = 1
selection_step (Selection-F.InlineFragment n) = n

abbrev pub field_step : Field-F ℕ ℕ ℕ ℕ → ℕ
field_step it = 1 + it.selection_set

abbrev pub inline_step : InlineFragment-F ℕ ℕ ℕ ℕ → ℕ
inline_step it = 1 + it.selection_set

abbrev pub set_step : SelectionSet-F ℕ ℕ ℕ ℕ → ℕ
set_step it = added it.selections

-- a selection with those inside it
abbrev pub count_one : Selection → ℕ
count_one = fold-Selection ℕ ℕ ℕ ℕ selection_step field_step inline_step set_step

abbrev pub count : List Selection → ℕ
count selections = added (map count_one selections)

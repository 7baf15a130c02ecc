-- How many selections there are, and why each collection by a plan looks at no more than these: whatever sets it is of, none
-- of the fields that stand there stands anywhere else below the operation and the fragments.
use Rattle.std.specs.Prelude.{◌+◌, ℕ, List}
use Rattle.gql_document_types.specs.declared.fragment.Fragment.{Fragment}
use Rattle.gql_document_types.specs.declared.selection.Selection.{Selection}
use Rattle.gql_collect.specs.Check.{total, total_fragments}
use Rattle.gql_collect.specs.View.{fragments_nested, nested}

-- every selection of these and of all fragments, at every depth
abbrev pub all_selections : List Fragment → List Selection → ℕ
all_selections fragments selections = total (nested fragments selections) + total_fragments (fragments_nested fragments)

-- How deep the selections of a document go.
use Rattle.std.specs.Prelude.{ℕ, List, []}
use Rattle.std.specs.Option.{option_map_or}
use Rattle.gql_collect.specs.Expanded.{expanded_depth}
use Rattle.gql_collect.specs.View.{nested, fragments_nested}
use Rattle.gql_document_types.specs.RootFields.{fragment_name}
use Rattle.gql_document_types.specs.declared.fragment.Fragment.{Fragment}
use Rattle.gql_document_types.specs.declared.selection.Selection.{Selection}
use Rattle.gql_schema_types.specs.Entries.{entry}

module _ (fragments : List Fragment) where
  abbrev pub depth_in : List Selection → ℕ
  depth_in selections = expanded_depth (fragments_nested fragments) (nested fragments selections)

  -- those of the fragment of a name, none if it is not defined
  abbrev pub selections_of : List ℕ → List Selection
  selections_of name =
      option_map_or (λ (fragment : Fragment). fragment.selection_set.selections) (entry fragment_name name fragments) []

-- Fragments that don't lead back to themselves have what their selections are expanded to.
use Rattle.std.specs.Prelude.{◌≡◌, ℕ, List, Some, slice_get}
use Rattle.gql_document_types.specs.Expanded.{contents, expanded}
use Rattle.gql_document_types.specs.declared.fragment.Fragment.{Fragment}

-- what a fragment selects is what its own selections are expanded to
abbrev pub HaveContents : List Fragment → Type 0
HaveContents fragments =
    (number : ℕ) (fragment : Fragment) → slice_get fragments number ≡ Some fragment
    → contents fragments fragment ≡ expanded fragments fragment.selection_set.selections

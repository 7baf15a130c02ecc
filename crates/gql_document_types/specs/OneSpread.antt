-- A small document: `{ ...F } fragment F on T { f }`.
use Rattle.std.specs.Prelude.{◌≡◌, [], ◌∷◌}
use Rattle.gql_document_types.specs.declared.fragment.Fragment.{Fragment}
use Rattle.gql_document_types.specs.declared.selection.Field.{Field}
use Rattle.gql_document_types.specs.declared.selection.FragmentSpread.{FragmentSpread}
use Rattle.gql_document_types.specs.declared.selection.Selection.TheVariants as selection

-- the fragment has one field, with nothing below it, and the spread is of this fragment
pub record IsOneSpread (fragment : Fragment) (spread : FragmentSpread) (field : Field) : Type 0 where
  pub named : spread.fragment_name.text ≡ fragment.name.text
  pub selects : fragment.selection_set.selections ≡ selection.Field field ∷ []
  pub leaf : field.selection_set.selections ≡ []

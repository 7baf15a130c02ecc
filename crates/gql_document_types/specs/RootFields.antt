-- The fields that an operation asks of its root type, through its fragments: section 6.3.2 of GraphQL October 2021 without
-- directives and conditions.
use Rattle.std.specs.Prelude.{◌≡◌, ℕ, Bool, true, false, List, [], ◌∷◌, ◌++◌, map, is_some}
use Rattle.std.specs.Borrow.{Bor}
use Rattle.std.specs.Option.{option_map_or}
use Rattle.gql_ast_base.specs.Names.{Named}
use Rattle.gql_schema_types.specs.Entries.{entry}
use Rattle.gql_document_types.specs.declared.fragment.Fragment.{Fragment}
use Rattle.gql_document_types.specs.declared.selection.Field.{Field}
use Rattle.gql_document_types.specs.declared.selection.FragmentSpread.{FragmentSpread}
use Rattle.gql_document_types.specs.declared.selection.InlineFragment.{InlineFragment}
use Rattle.gql_document_types.specs.declared.selection.Selection.{Selection}
use Rattle.gql_document_types.specs.declared.selection.Selection.TheVariants as selection

abbrev pub fragment_name : Fragment → Named
fragment_name fragment = fragment.name

-- what a spread of the name stands for: nothing where no fragment has it
abbrev pub body : List Fragment → List ℕ → List Selection
body fragments name = option_map_or (λ fragment. fragment.selection_set.selections) (entry fragment_name name fragments) []

abbrev pub itself : Named → Named
itself name = name

abbrev pub is_entered : Named → List Named → Bool
is_entered name entered = is_some (entry itself name.text entered)

-- The root fields of these selections, in order, where the fragments of some names are entered already. Inline fragments
-- are gone through, and a fragment at its first spread.
pub data AreRootFields (fragments : List Fragment) : List Named → List Selection → List Field → Type 0 where
  none_left : {entered : List Named} → AreRootFields fragments entered [] []
  a_field : {entered : List Named} {rest : List Selection} {fields : List Field} (it : Field)
      → AreRootFields fragments entered rest fields → AreRootFields fragments entered (selection.Field it ∷ rest) (it ∷ fields)
  an_inline_fragment : {entered : List Named} {rest : List Selection} {fields : List Field} (it : InlineFragment)
      → AreRootFields fragments entered (it.selection_set.selections ++ rest) fields
      → AreRootFields fragments entered (selection.InlineFragment it ∷ rest) fields
  a_first_spread : {entered : List Named} {rest : List Selection} {fields : List Field} (it : FragmentSpread)
      → is_entered it.fragment_name entered ≡ false
      → AreRootFields fragments (entered ++ it.fragment_name ∷ []) (body fragments it.fragment_name.text ++ rest) fields
      → AreRootFields fragments entered (selection.FragmentSpread it ∷ rest) fields
  a_further_spread : {entered : List Named} {rest : List Selection} {fields : List Field} (it : FragmentSpread)
      → is_entered it.fragment_name entered ≡ true → AreRootFields fragments entered rest fields
      → AreRootFields fragments entered (selection.FragmentSpread it ∷ rest) fields

abbrev pub fields_of : List (Bor Field) → List Field
fields_of fields = map (λ (field : Bor Field). field.now) fields

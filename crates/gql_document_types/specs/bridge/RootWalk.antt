-- A walk on its way through the selections of an operation.
use Rattle.std.specs.Prelude.{◌≡◌, ℕ, List, [], ◌∷◌, ◌++◌, map, reverse, None, if◌then◌else◌}
use Rattle.std.specs.Borrow.{Bor}
use Rattle.std.specs.Option.{option_map_or}
use Rattle.gql_ast_base.specs.Names.{Named}
use Rattle.gql_schema_types.specs.Entries.{entry}
use Rattle.gql_document_types.specs.RootFields.{fragment_name, itself, is_entered, fields_of}
use Rattle.gql_document_types.specs.declared.fragment.Fragment.{Fragment}
use Rattle.gql_document_types.specs.declared.selection.Field.{Field}
use Rattle.gql_document_types.specs.declared.selection.FragmentSpread.{FragmentSpread}
use Rattle.gql_document_types.specs.declared.selection.InlineFragment.{InlineFragment}
use Rattle.gql_document_types.specs.declared.selection.Selection.{Selection, out-Selection}
use Rattle.gql_document_types.specs.declared.selection.Selection.TheOpen.{Selection-F}
use Rattle.gql_document_types.specs.declared.selection.SelectionSet.{SelectionSet}

-- the fragments that are entered, the lists that are left, and the fields so far
pub record Walk : Type 0 where
  pub entered : List Named
  pub left : List (List Selection)
  pub fields : List Field

-- lists that are laid aside, the last one first
abbrev pub lists_of : List (Bor (List Selection)) → List (List Selection)
lists_of pending = map (λ (selections : Bor (List Selection)). selections.now) (reverse pending)

abbrev pub walk_of : List Named → List (Bor (List Selection)) → List (Bor Field) → Walk
walk_of entered pending fields = record { entered = entered; left = lists_of pending; fields = fields_of fields }

abbrev pub is_new : Named → List Named → Type 0
is_new name entered = entry itself name.text entered ≡ None

abbrev pub noted : List Named → Named → List Named
noted entered name = entered ++ name ∷ []

abbrev pub with_list : List Selection → Walk → Walk
with_list selections walk = record walk { left = selections ∷ walk.left }

-- what is inside the fragment of the name, if there is one, and then the others
abbrev pub with_body : List Fragment → List ℕ → List (List Selection) → List (List Selection)
with_body fragments name left = option_map_or (λ (fragment : Fragment). fragment.selection_set.selections ∷ left) (entry fragment_name name fragments) left

abbrev pub with_spread : List Fragment → FragmentSpread → Walk → Walk
with_spread fragments spread walk =
    if is_entered spread.fragment_name walk.entered then walk
    else record walk { entered = noted walk.entered spread.fragment_name; left = with_body fragments spread.fragment_name.text walk.left }

abbrev pub met : List Fragment → Selection-F Selection Field InlineFragment SelectionSet → Walk → Walk
met fragments (Selection-F.Field it) walk = record walk { fields = walk.fields ++ it ∷ [] }
met fragments (Selection-F.InlineFragment it) walk = with_list it.selection_set.selections walk
met fragments (Selection-F.FragmentSpread it) walk = with_spread fragments it walk

abbrev pub with_selection : List Fragment → Selection → Walk → Walk
with_selection fragments selection walk = met fragments (out-Selection selection) walk

abbrev pub with_first : List Fragment → List Selection → Walk → Walk
with_first fragments [] walk = walk
with_first fragments (first ∷ others) walk = with_selection fragments first (with_list others walk)

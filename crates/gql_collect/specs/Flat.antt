-- Flat selections: each spread and each inline fragment that applies is replaced by its contents, and nothing is remembered.
-- CollectFields, section 6.3.2 of GraphQL October 2021, before its grouping.
use Rattle.std.specs.Prelude.{ℕ, zero, suc, ◌+◌, ◌*◌, Bool, true, false, ◌&&◌, List, [], ◌∷◌, ◌++◌, length, Option, Some, None}
use Rattle.std.specs.List.{flat_map}
use Rattle.gql_document_types.specs.RootFields.{fragment_name}
use Rattle.gql_document_types.specs.declared.fragment.Fragment.{Fragment}
use Rattle.gql_document_types.specs.declared.selection.Field.{Field}
use Rattle.gql_document_types.specs.declared.selection.InlineFragment.{InlineFragment}
use Rattle.gql_document_types.specs.declared.selection.Selection.{Selection, out-Selection}
use Rattle.gql_document_types.specs.declared.selection.Selection.TheOpen.{Selection-F}
use Rattle.gql_document_types.specs.declared.selection.SelectionSet.{SelectionSet}
use Rattle.gql_schema_types.specs.Entries.{entry}
use Rattle.gql_collect.specs.Applies.{applies, applies_if}
use Rattle.gql_collect.specs.Kept.{is_kept}
use Rattle.gql_collect.specs.Setting.{Setting}
use Rattle.gql_collect.specs.Sizes.{size, fragments_size}

-- one selection, as it is written
abbrev pub Shape : Type 0
Shape = Selection-F Selection Field InlineFragment SelectionSet

abbrev pub when : {A : Type 0} → Bool → List A → List A
when true xs = xs
when false xs = []

module _ (s : Setting) where
  -- a fragment's selections, if it is defined and applies
  abbrev pub contents : Option Fragment → List Selection
  contents None = []
  contents (Some fragment) = when (applies s.schema.types s.object fragment.selection_set.ty.text) fragment.selection_set.selections

  abbrev pub body : List ℕ → List Selection
  body name = contents (entry fragment_name name s.fragments)

  -- the field that a selection is, if it is kept
  abbrev pub field_of : Shape → List Field
  field_of (Selection-F.Field it) = when (is_kept s.variables it.directives) (it ∷ [])
  field_of _ = []

  -- the selections that stand in its place, if it is a fragment that is kept and applies
  abbrev pub opened : Shape → List Selection
  opened (Selection-F.Field it) = []
  opened (Selection-F.FragmentSpread it) = when (is_kept s.variables it.directives) (body it.fragment_name.text)
  opened (Selection-F.InlineFragment it) =
      when (is_kept s.variables it.directives && applies_if s.schema.types s.object it.type_condition) it.selection_set.selections

  -- with at most n fragments inside one another
  abbrev pub flat_within : ℕ → List Selection → List Field
  flat_within zero selections = []
  flat_within (suc n) selections =
      flat_map (λ x. field_of (out-Selection x) ++ flat_within n (opened (out-Selection x))) selections

  -- more than there can be inside one another where no fragment leads back to itself
  abbrev pub enough : List Selection → ℕ
  enough selections = suc (size selections + suc (length s.fragments) * suc (fragments_size s.fragments))

  unfoldable pub flat : List Selection → List Field
  flat selections = flat_within (enough selections) selections

  -- those of several sets, one after the other
  abbrev pub flat_sets : List (List Selection) → List Field
  flat_sets sets = flat_map flat sets

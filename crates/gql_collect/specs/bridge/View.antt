-- What only private clauses and proofs cite, beside `View`.
use Rattle.std.specs.Prelude.{List}
use Rattle.gql_document_types.specs.declared.fragment.Fragment.{Fragment}
use Rattle.gql_document_types.specs.declared.selection.Field.{Field, fold-Field}
use Rattle.gql_document_types.specs.declared.selection.InlineFragment.{InlineFragment, fold-InlineFragment}
use Rattle.gql_collect.specs.Nested.{Nested}
use Rattle.gql_collect.specs.View.{One, selection_step, field_step, inline_step, set_step}

module _ (fragments : List Fragment) where
  abbrev pub field_of : Field → One
  field_of = fold-Field One One One Nested (selection_step fragments) (field_step fragments) (inline_step fragments) (set_step fragments)

  abbrev pub inline_of : InlineFragment → One
  inline_of = fold-InlineFragment One One One Nested (selection_step fragments) (field_step fragments) (inline_step fragments) (set_step fragments)

-- What only private clauses and proofs cite, beside `UntypedSelections`.
use Rattle.gql_ast.specs.declared.selection.Field.{Field}
use Rattle.gql_ast.specs.declared.selection.InlineFragment.{InlineFragment}
use Rattle.gql_document_types.specs.declared.selection.Field.{Field as BuiltField}
use Rattle.gql_document_types.specs.declared.selection.InlineFragment.{InlineFragment as BuiltInline}
use Rattle.gql_rules.specs.NoSchema.{unknown_field}
use Rattle.gql_rules.specs.UntypedSelections.{untyped_set}

-- ---- the same of one field, and of one inline fragment

abbrev pub untyped_field : Field → BuiltField
untyped_field it = record {
  alias = it.alias;
  name = it.name;
  arguments = it.arguments;
  directives = it.directives;
  selection_set = untyped_set it.selection_set;
  location = it.location;
  definition = unknown_field;
}

abbrev pub untyped_inline : InlineFragment → BuiltInline
untyped_inline it = record {
  type_condition = it.type_condition;
  directives = it.directives;
  selection_set = untyped_set it.selection_set;
  location = it.location;
}

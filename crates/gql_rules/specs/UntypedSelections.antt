-- Selections as they stand in a document in which no type is known: sections 2.4 to 2.8 of GraphQL October 2021. All of them are
-- there, each with what it says; a field's definition says nothing.
use Rattle.std.specs.Prelude.{List, map}
use Rattle.gql_ast.specs.declared.selection.FragmentSpread.{FragmentSpread}
use Rattle.gql_ast.specs.declared.selection.Selection.{Selection, fold-Selection}
use Rattle.gql_ast.specs.declared.selection.Selection.TheOpen.{Selection-F, Field-F, InlineFragment-F}
use Rattle.gql_document_types.specs.declared.selection.Field.{Field as BuiltField}
use Rattle.gql_document_types.specs.declared.selection.InlineFragment.{InlineFragment as BuiltInline}
use Rattle.gql_document_types.specs.declared.selection.Selection.{Selection as Built}
use Rattle.gql_document_types.specs.declared.selection.Selection.TheVariants as built
use Rattle.gql_document_types.specs.declared.selection.SelectionSet.{SelectionSet}
use Rattle.gql_rules.specs.NoSchema.{unknown_type, unknown_field}

abbrev pub set_of : List Built → SelectionSet
set_of selections = record { ty = unknown_type; selections = selections }

abbrev pub spread_of : FragmentSpread → Built
spread_of it = built.FragmentSpread (record { fragment_name = it.fragment_name; directives = it.directives; location = it.location })

abbrev pub field_step : Field-F Built BuiltField BuiltInline → BuiltField
field_step it = record {
  alias = it.alias;
  name = it.name;
  arguments = it.arguments;
  directives = it.directives;
  selection_set = set_of it.selection_set;
  location = it.location;
  definition = unknown_field;
}

abbrev pub inline_step : InlineFragment-F Built BuiltField BuiltInline → BuiltInline
inline_step it = record {
  type_condition = it.type_condition;
  directives = it.directives;
  selection_set = set_of it.selection_set;
  location = it.location;
}

abbrev pub selection_step : Selection-F Built BuiltField BuiltInline → Built
selection_step (Selection-F.Field it) = built.Field it
selection_step (Selection-F.FragmentSpread it) = spread_of it
selection_step (Selection-F.InlineFragment it) = built.InlineFragment it

abbrev pub untyped_selection : Selection → Built
untyped_selection = fold-Selection Built BuiltField BuiltInline selection_step field_step inline_step

abbrev pub untyped_set : List Selection → SelectionSet
untyped_set selections = set_of (map untyped_selection selections)

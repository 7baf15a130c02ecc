-- What one selection makes.
use Rattle.std.specs.Prelude.{Bool, List, [], ◌∷◌, if◌then◌else◌}
use Rattle.std.specs.Option.{option_map_or}
use Rattle.gql_ast_base.specs.Names.{Named}
use Rattle.gql_ast.specs.declared.field_definition.FieldDefinition.{FieldDefinition}
use Rattle.gql_ast.specs.declared.selection.Field.{Field}
use Rattle.gql_ast.specs.declared.selection.InlineFragment.{InlineFragment}
use Rattle.gql_ast.specs.declared.selection.Selection.{Selection}
use Rattle.gql_ast_base.specs.TypeParts.{named_type}
use Rattle.gql_document_types.specs.declared.selection.Selection.{Selection as Built}
use Rattle.gql_document_types.specs.declared.selection.Selection.TheVariants as built
use Rattle.gql_schema_types.specs.Schemas.{field_of}
use Rattle.gql_schema_types.specs.declared.schema.Schema.{Schema}
use Rattle.gql_document.specs.BuiltSelections as sets
use Rattle.gql_document.specs.Nodes.{is_open, is_nonempty, type_inside}

-- a set of selections on a type
abbrev pub list : Schema → Named → List Selection → List Built
list schema ty selections = (sets.built_set schema ty selections).selections

abbrev pub is_selected_leaf : Schema → Field → FieldDefinition → Bool
is_selected_leaf schema field definition = sets.is_selected_leaf schema definition (is_nonempty field.selection_set)

-- a field with a definition
abbrev pub defined : Schema → Field → FieldDefinition → List Built
defined schema it definition =
    if is_selected_leaf schema it definition then [] else
    built.Field (record {
      alias = it.alias;
      name = it.name;
      arguments = it.arguments;
      directives = it.directives;
      selection_set = sets.built_set schema (named_type definition.ty) it.selection_set;
      location = it.location;
      definition = definition;
    }) ∷ []

abbrev pub field : Schema → Field → Named → List Built
field schema it ty = option_map_or (defined schema it) (field_of schema ty.text it.name.text) []

abbrev pub inline : Schema → InlineFragment → Named → List Built
inline schema it ty =
    if is_open schema it.type_condition then
    built.InlineFragment (record {
      type_condition = it.type_condition;
      directives = it.directives;
      selection_set = sets.built_set schema (type_inside ty it.type_condition) it.selection_set;
      location = it.location;
    }) ∷ []
    else []

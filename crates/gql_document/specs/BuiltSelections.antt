-- The selections of a document that selections of its text make: each field with its definition, and without what is not
-- defined and what selects on a scalar or an enum.
use Rattle.std.specs.Prelude.{Bool, ◌&&◌, List, [], ◌∷◌, map, if◌then◌else◌}
use Rattle.std.specs.List.{flat_map}
use Rattle.std.specs.Option.{option_map_or}
use Rattle.gql_ast_base.specs.Names.{Named}
use Rattle.gql_ast.specs.declared.field_definition.FieldDefinition.{FieldDefinition}
use Rattle.gql_ast.specs.declared.selection.FragmentSpread.{FragmentSpread}
use Rattle.gql_ast.specs.declared.selection.Selection.{Selection, fold-Selection}
use Rattle.gql_ast.specs.declared.selection.Selection.TheOpen.{Selection-F, Field-F, InlineFragment-F}
use Rattle.gql_ast_base.specs.TypeParts.{named_type}
use Rattle.gql_document_types.specs.declared.selection.Selection.{Selection as Built}
use Rattle.gql_document_types.specs.declared.selection.Selection.TheVariants as built
use Rattle.gql_document_types.specs.declared.selection.SelectionSet.{SelectionSet}
use Rattle.gql_schema_types.specs.Schemas.{field_of}
use Rattle.gql_schema_types.specs.declared.schema.Schema.{Schema}
use Rattle.gql_document.specs.Nodes.{is_of, is_leaf, is_open, is_nonempty, type_inside}

-- for each type of a set, what a selection in it makes
abbrev pub Makes : Type 0
Makes = Named → List Built

-- the set on a type
abbrev pub set_of : Named → List Makes → SelectionSet
set_of ty selections = record { ty = ty; selections = flat_map (λ makes. makes ty) selections }

abbrev pub spread_of : FragmentSpread → Built
spread_of it = built.FragmentSpread (record { fragment_name = it.fragment_name; directives = it.directives; location = it.location })

module _ (schema : Schema) where
  abbrev pub is_selected_leaf : FieldDefinition → Bool → Bool
  is_selected_leaf definition selects = selects && is_of is_leaf schema definition.ty

  abbrev pub field_made : Field-F Makes Makes Makes → FieldDefinition → List Built
  field_made it definition =
      if is_selected_leaf definition (is_nonempty it.selection_set) then [] else
      built.Field (record {
        alias = it.alias;
        name = it.name;
        arguments = it.arguments;
        directives = it.directives;
        selection_set = set_of (named_type definition.ty) it.selection_set;
        location = it.location;
        definition = definition;
      }) ∷ []

  abbrev pub field_step : Field-F Makes Makes Makes → Makes
  field_step it ty = option_map_or (field_made it) (field_of schema ty.text it.name.text) []

  abbrev pub inline_step : InlineFragment-F Makes Makes Makes → Makes
  inline_step it ty =
      if is_open schema it.type_condition then
      built.InlineFragment (record {
        type_condition = it.type_condition;
        directives = it.directives;
        selection_set = set_of (type_inside ty it.type_condition) it.selection_set;
        location = it.location;
      }) ∷ []
      else []

  abbrev pub selection_step : Selection-F Makes Makes Makes → Makes
  selection_step (Selection-F.Field makes) ty = makes ty
  selection_step (Selection-F.FragmentSpread it) ty = spread_of it ∷ []
  selection_step (Selection-F.InlineFragment makes) ty = makes ty

  abbrev pub makes_of : Selection → Makes
  makes_of = fold-Selection Makes Makes Makes selection_step field_step inline_step

  -- the set that selections make on a type
  abbrev pub built_set : Named → List Selection → SelectionSet
  built_set ty selections = set_of ty (map makes_of selections)

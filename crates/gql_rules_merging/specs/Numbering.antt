-- The fields of a document by numbers, and its sets of selections: sections 2.4, 2.5 and 2.8 of GraphQL October 2021. Each field
-- comes after those that are selected in it.
use Rattle.std.specs.Prelude.{ℕ, ◌+◌, List, [], ◌∷◌, ◌++◌, map, length, position, Option, option_to_list}
use Rattle.gql_source.specs.Span.{Span}
use Rattle.gql_ast_base.specs.Names.{Named}
use Rattle.gql_ast.specs.declared.field_definition.FieldDefinition.{FieldDefinition}
use Rattle.gql_ast_base.specs.declared.directive.Argument.{Argument}
use Rattle.gql_document_types.specs.RootFields.{fragment_name}
use Rattle.gql_document_types.specs.declared.document.ExecutableDocument.{ExecutableDocument}
use Rattle.gql_document_types.specs.declared.fragment.Fragment.{Fragment}
use Rattle.gql_document_types.specs.declared.operation.Operation.{Operation}
use Rattle.gql_document_types.specs.declared.selection.Selection.{Selection, fold-Selection}
use Rattle.gql_document_types.specs.declared.selection.Selection.TheOpen.{Selection-F, Field-F, InlineFragment-F, SelectionSet-F}
use Rattle.gql_document_types.specs.declared.selection.SelectionSet.{SelectionSet}
use Rattle.gql_schema_types.specs.Entries.{is_called}

-- What a set selects, those of inline fragments among it: a fragment of the document by its number, and a field by its own number
-- behind those of all fragments.
abbrev pub Items : Type 0
Items = List ℕ

-- a field, with the type of the set that it stands in and what its own set selects
pub record Selected : Type 0 where
  pub parent : Named
  pub alias : Option Named
  pub name : Named
  pub arguments : List Argument
  pub location : Option Span
  pub definition : FieldDefinition
  pub items : Items

-- the fields so far, and what the set selects so far
pub record Gathered : Type 0 where
  pub fields : List Selected
  pub items : Items

-- for the type of a set, what a selection in it adds
abbrev pub Adds : Type 0
Adds = Named → Gathered → Gathered

-- what a whole set adds, by its own type
abbrev pub SetAdds : Type 0
SetAdds = Gathered → Gathered

-- what stands in a set of its own
abbrev pub own_set : SetAdds → List Selected → Gathered
own_set set fields = set (record { fields = fields; items = [] })

abbrev pub all_added : Named → List Adds → Gathered → Gathered
all_added ty [] so_far = so_far
all_added ty (adds ∷ others) so_far = all_added ty others (adds ty so_far)

module _ (fragments : List Fragment) where
  -- a spread of a fragment that is not defined selects nothing
  abbrev pub number_of : Named → Items
  number_of name = option_to_list (position (is_called fragment_name name.text) fragments)

  abbrev pub with_spread : Named → Gathered → Gathered
  with_spread name so_far = record { fields = so_far.fields; items = so_far.items ++ number_of name }

  -- the last of these fields stands in the set
  abbrev pub with_last : Selected → List Selected → Items → Gathered
  with_last field fields items = record { fields = fields ++ field ∷ []; items = items ++ (length fragments + length fields) ∷ [] }

  abbrev pub field_step : Field-F Adds Adds Adds SetAdds → Adds
  field_step it parent so_far =
      let inner = own_set it.selection_set so_far.fields in
      with_last
      (record {
        parent = parent;
        alias = it.alias;
        name = it.name;
        arguments = it.arguments;
        location = it.location;
        definition = it.definition;
        items = inner.items;
      })
      inner.fields so_far.items

  abbrev pub inline_step : InlineFragment-F Adds Adds Adds SetAdds → Adds
  inline_step it parent so_far = it.selection_set so_far

  abbrev pub selection_step : Selection-F Adds Adds Adds SetAdds → Adds
  selection_step (Selection-F.Field adds) parent so_far = adds parent so_far
  selection_step (Selection-F.FragmentSpread it) parent so_far = with_spread it.fragment_name so_far
  selection_step (Selection-F.InlineFragment adds) parent so_far = adds parent so_far

  abbrev pub set_step : SelectionSet-F Adds Adds Adds SetAdds → SetAdds
  set_step it so_far = all_added it.ty it.selections so_far

  abbrev pub with_selection : Selection → Adds
  with_selection = fold-Selection Adds Adds Adds SetAdds selection_step field_step inline_step set_step

  abbrev pub with_selections : Named → List Selection → Gathered → Gathered
  with_selections ty selections so_far = all_added ty (map with_selection selections) so_far

  abbrev pub with_set : SelectionSet → SetAdds
  with_set set so_far = with_selections set.ty set.selections so_far

-- sets, and the fields in them
pub record Sets : Type 0 where
  pub sets : List Items
  pub fields : List Selected

module _ (fragments : List Fragment) where
  abbrev pub with_one : SelectionSet → Sets → Sets
  with_one set so_far =
      let inner = own_set (with_set fragments set) so_far.fields in
      record { sets = so_far.sets ++ inner.items ∷ []; fields = inner.fields }

  abbrev pub with_sets : List SelectionSet → Sets → Sets
  with_sets [] so_far = so_far
  with_sets (set ∷ sets) so_far = with_sets sets (with_one set so_far)

-- a document's sets, and its fields by number
pub record Numbered : Type 0 where
  pub fragments : List Items
  pub operations : List Items
  pub fields : List Selected

abbrev pub fragment_sets : ExecutableDocument → List SelectionSet
fragment_sets document = map (λ (fragment : Fragment). fragment.selection_set) document.fragments

abbrev pub operation_sets : ExecutableDocument → List SelectionSet
operation_sets document = map (λ (operation : Operation). operation.selection_set) document.operations

abbrev pub in_fragments : ExecutableDocument → Sets
in_fragments document = with_sets document.fragments (fragment_sets document) (record { sets = []; fields = [] })

abbrev pub in_operations : ExecutableDocument → Sets
in_operations document =
    with_sets document.fragments (operation_sets document) (record { sets = []; fields = (in_fragments document).fields })

abbrev pub numbered : ExecutableDocument → Numbered
numbered document = record {
  fragments = (in_fragments document).sets;
  operations = (in_operations document).sets;
  fields = (in_operations document).fields;
}

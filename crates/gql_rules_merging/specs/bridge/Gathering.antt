-- The fields of a document as the code holds them.
use Rattle.std.specs.Prelude.{List, [], map}
use Rattle.gql_ast_base.specs.Names.{Named}
use Rattle.gql_ast_base.specs.declared.directive.Argument.{Argument}
use Rattle.gql_document_types.specs.declared.fragment.Fragment.{Fragment}
use Rattle.gql_document_types.specs.declared.operation.Operation.{Operation}
use Rattle.gql_document_types.specs.declared.selection.Field.{Field}
use Rattle.gql_document_types.specs.declared.selection.SelectionSet.{SelectionSet}
use Rattle.gql_rules_merging.specs.Numbering.{Items, Selected, Gathered, Sets, Numbered, own_set, with_last, with_set}
use Rattle.gql_rules_merging.specs.declared.numbering.Numbered.{Numbered as Held}
use Rattle.gql_rules_merging.specs.declared.numbering.Selected.{Selected as HeldField}

abbrev pub selected_with : Named → Field → List Argument → Items → Selected
selected_with parent field arguments items = record {
  parent = parent;
  alias = field.alias;
  name = field.name;
  arguments = arguments;
  location = field.location;
  definition = field.definition;
  items = items;
}

abbrev pub selected_as : Named → Field → Items → Selected
selected_as parent field items = selected_with parent field field.arguments items

abbrev pub selected_of : HeldField → Selected
selected_of held = selected_with held.parent.now held.field.now held.arguments held.items

abbrev pub fields_of : List HeldField → List Selected
fields_of held = map selected_of held

abbrev pub gathered : List HeldField → Items → Gathered
gathered fields items = record { fields = fields_of fields; items = items }

abbrev pub sets_of : List Items → List HeldField → Sets
sets_of sets fields = record { sets = sets; fields = fields_of fields }

abbrev pub no_sets : List HeldField → Sets
no_sets fields = sets_of [] fields

abbrev pub numbered_of : Held → Numbered
numbered_of held = record { fragments = held.fragments; operations = held.operations; fields = fields_of held.fields }

abbrev pub fragment_sets : List Fragment → List SelectionSet
fragment_sets fragments = map (λ (fragment : Fragment). fragment.selection_set) fragments

abbrev pub operation_sets : List Operation → List SelectionSet
operation_sets operations = map (λ (operation : Operation). operation.selection_set) operations

-- what a field adds
abbrev pub with_field : List Fragment → Named → Field → Gathered → Gathered
with_field fragments parent field so_far =
    let inner = own_set (with_set fragments field.selection_set) so_far.fields in
    with_last fragments (selected_as parent field inner.items) inner.fields so_far.items

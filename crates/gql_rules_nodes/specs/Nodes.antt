-- The nodes of an executable document: operations, fragments and selections (sections 2.3 to 2.8 of GraphQL October 2021). Each
-- says what it is by itself, without what is selected in it.
use Rattle.std.specs.Prelude.{Bool, true, false, List, [], ◌∷◌, ◌++◌, map, Option}
use Rattle.std.specs.List.{flat_map}
use Rattle.gql_source.specs.Span.{Span}
use Rattle.gql_ast_base.specs.Names.{Named}
use Rattle.gql_ast_base.specs.declared.operation_type.OperationType.{OperationType}
use Rattle.gql_ast.specs.declared.field_definition.FieldDefinition.{FieldDefinition}
use Rattle.gql_ast.specs.declared.operation.VariableDefinition.{VariableDefinition}
use Rattle.gql_ast_base.specs.declared.directive.Argument.{Argument}
use Rattle.gql_ast_base.specs.declared.directive.Directive.{Directive}
use Rattle.gql_document_types.specs.declared.document.ExecutableDocument.{ExecutableDocument}
use Rattle.gql_document_types.specs.declared.fragment.Fragment.{Fragment}
use Rattle.gql_document_types.specs.declared.operation.Operation.{Operation}
use Rattle.gql_document_types.specs.declared.selection.FragmentSpread.{FragmentSpread}
use Rattle.gql_document_types.specs.declared.selection.Selection.{Selection, fold-Selection}
use Rattle.gql_document_types.specs.declared.selection.Selection.TheOpen.{Selection-F, Field-F, InlineFragment-F, SelectionSet-F}
use Rattle.gql_document_types.specs.declared.selection.SelectionSet.{SelectionSet}

-- an operation, with the type of its set
pub record OperationNode : Type 0 where
  pub operation_type : OperationType
  pub name : Option Named
  pub variables : List VariableDefinition
  pub directives : List Directive
  pub ty : Named
  pub location : Option Span

-- a fragment with a name, and the type that it is on
pub record FragmentNode : Type 0 where
  pub name : Named
  pub directives : List Directive
  pub ty : Named
  pub location : Option Span

-- a field, with the type of the set that it stands in and its definition; does it have selections?
pub record FieldNode : Type 0 where
  pub parent : Named
  pub alias : Option Named
  pub name : Named
  pub arguments : List Argument
  pub directives : List Directive
  pub selects : Bool
  pub location : Option Span
  pub definition : FieldDefinition

-- a spread of a fragment, with the type of the set that it stands in
pub record SpreadNode : Type 0 where
  pub parent : Named
  pub fragment_name : Named
  pub directives : List Directive
  pub location : Option Span

-- an inline fragment, with the type of the set that it stands in
pub record InlineNode : Type 0 where
  pub parent : Named
  pub type_condition : Option Named
  pub directives : List Directive
  pub location : Option Span

pub data Node : Type 0 where
  operation : OperationNode → Node
  fragment : FragmentNode → Node
  field : FieldNode → Node
  spread : SpreadNode → Node
  inline_fragment : InlineNode → Node

abbrev pub is_nonempty : {X : Type 0} → List X → Bool
is_nonempty [] = false
is_nonempty (x ∷ xs) = true

-- ---- each by itself

abbrev pub operation_at : Operation → Node
operation_at it = operation (record {
  operation_type = it.operation_type;
  name = it.name;
  variables = it.variables;
  directives = it.directives;
  ty = it.selection_set.ty;
  location = it.location;
})

abbrev pub fragment_at : Fragment → Node
fragment_at it = fragment (record { name = it.name; directives = it.directives; ty = it.selection_set.ty; location = it.location })

abbrev pub spread_at : Named → FragmentSpread → Node
spread_at parent it = spread (record { parent = parent; fragment_name = it.fragment_name; directives = it.directives; location = it.location })

-- ---- those of a set of selections: each selection before what is selected in it

-- for the type of a set, the nodes of a selection in it
abbrev pub Nodes : Type 0
Nodes = Named → List Node

-- the nodes of a set, and whether it has selections
pub record SetNodes : Type 0 where
  pub selects : Bool
  pub nodes : List Node

abbrev pub field_step : Field-F Nodes Nodes Nodes SetNodes → Nodes
field_step it parent =
    field (record {
      parent = parent;
      alias = it.alias;
      name = it.name;
      arguments = it.arguments;
      directives = it.directives;
      selects = it.selection_set.selects;
      location = it.location;
      definition = it.definition;
    })
    ∷ it.selection_set.nodes

abbrev pub inline_step : InlineFragment-F Nodes Nodes Nodes SetNodes → Nodes
inline_step it parent =
    inline_fragment (record { parent = parent; type_condition = it.type_condition; directives = it.directives; location = it.location })
    ∷ it.selection_set.nodes

abbrev pub selection_step : Selection-F Nodes Nodes Nodes SetNodes → Nodes
selection_step (Selection-F.Field nodes) parent = nodes parent
selection_step (Selection-F.FragmentSpread it) parent = spread_at parent it ∷ []
selection_step (Selection-F.InlineFragment nodes) parent = nodes parent

abbrev pub nodes_in : Named → List Nodes → List Node
nodes_in ty selections = flat_map (λ nodes. nodes ty) selections

abbrev pub set_step : SelectionSet-F Nodes Nodes Nodes SetNodes → SetNodes
set_step it = record { selects = is_nonempty it.selections; nodes = nodes_in it.ty it.selections }

abbrev pub selection_nodes : Selection → Nodes
selection_nodes = fold-Selection Nodes Nodes Nodes SetNodes selection_step field_step inline_step set_step

-- those of the selections of a set on a type
abbrev pub selections_nodes : Named → List Selection → List Node
selections_nodes ty selections = nodes_in ty (map selection_nodes selections)

abbrev pub set_nodes : SelectionSet → List Node
set_nodes set = selections_nodes set.ty set.selections

-- ---- those of a document: its operations and then its fragments, each with its selections

abbrev pub operation_nodes : Operation → List Node
operation_nodes it = operation_at it ∷ set_nodes it.selection_set

abbrev pub fragment_nodes : Fragment → List Node
fragment_nodes it = fragment_at it ∷ set_nodes it.selection_set

abbrev pub nodes : ExecutableDocument → List Node
nodes document = flat_map operation_nodes document.operations ++ flat_map fragment_nodes document.fragments

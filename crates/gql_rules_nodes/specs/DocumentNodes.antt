-- What is wrong with each node of a document by itself: sections 5.3 to 5.8 of GraphQL October 2021.
use Rattle.std.specs.Prelude.{false, List, ◌++◌}
use Rattle.std.specs.List.{flat_map}
use Rattle.gql_ast_base.specs.declared.operation_type.OperationType.{OperationType}
use Rattle.gql_ast_base.specs.declared.operation_type.OperationType.TheVariants.{Query, Mutation, Subscription}
use Rattle.gql_ast.specs.declared.schema_definition.DirectiveLocation.{DirectiveLocation}
use Rattle.gql_ast.specs.declared.schema_definition.DirectiveLocation.TheVariants as at
use Rattle.gql_ast_base.specs.declared.directive.Directive.{Directive}
use Rattle.gql_diag_messages.specs.declared.diagnostic_data.DiagnosticData.{DiagnosticData}
use Rattle.gql_document_types.specs.declared.document.ExecutableDocument.{ExecutableDocument}
use Rattle.gql_document_types.specs.declared.fragment.Fragment.{Fragment}
use Rattle.gql_rules_values.specs.declared.known.Defined.TheVariants.{Types}
use Rattle.gql_rules_nodes.specs.Nodes.{Node, operation, fragment, field, spread, inline_fragment, nodes}
use Rattle.gql_rules_nodes.specs.Nodes.{OperationNode, FragmentNode, FieldNode, SpreadNode, InlineNode}
use Rattle.gql_rules_values.specs.Arguments.{argument_faults}
use Rattle.gql_rules_values.specs.Directives.{directive_faults}
use Rattle.gql_schema_types.specs.declared.schema.Schema.{Schema}
use Rattle.gql_rules_nodes.specs.InvalidFragmentSpread.{fragment_spread, inline_spread}
use Rattle.gql_rules_nodes.specs.InvalidFragmentTarget.{fragment_target, inline_target}
use Rattle.gql_rules_nodes.specs.MissingSubselection.{missing_subselection}
use Rattle.gql_rules_nodes.specs.Variables.{variables_faults}

-- where the directives of such an operation stand
abbrev pub operation_location : OperationType → DirectiveLocation
operation_location Query = at.Query
operation_location Mutation = at.Mutation
operation_location Subscription = at.Subscription

module _ (schema : Schema) where
  abbrev pub directives_at : DirectiveLocation → List Directive → List DiagnosticData
  directives_at location directives = directive_faults Types schema.types location schema.directive_definitions directives

  abbrev pub operation_faults : OperationNode → List DiagnosticData
  operation_faults node = directives_at (operation_location node.operation_type) node.directives ++ variables_faults schema node.variables

  abbrev pub fragment_faults : FragmentNode → List DiagnosticData
  fragment_faults node = directives_at at.FragmentDefinition node.directives ++ fragment_target schema.types node

  abbrev pub field_faults : FieldNode → List DiagnosticData
  field_faults node =
      directives_at at.Field node.directives
      ++ (argument_faults Types schema.types false node.name.text node.location node.definition.arguments node.arguments
      ++ missing_subselection schema.types node)

  abbrev pub spread_faults : List Fragment → SpreadNode → List DiagnosticData
  spread_faults fragments node = directives_at at.FragmentSpread node.directives ++ fragment_spread schema.types fragments node

  abbrev pub inline_faults : InlineNode → List DiagnosticData
  inline_faults node =
      directives_at at.InlineFragment node.directives ++ (inline_target schema.types node ++ inline_spread schema.types node)

  -- what the rules list at one node of a document that has these fragments
  abbrev pub node_faults : List Fragment → Node → List DiagnosticData
  node_faults fragments (operation node) = operation_faults node
  node_faults fragments (fragment node) = fragment_faults node
  node_faults fragments (field node) = field_faults node
  node_faults fragments (spread node) = spread_faults fragments node
  node_faults fragments (inline_fragment node) = inline_faults node

  abbrev pub document_nodes_faults : ExecutableDocument → List DiagnosticData
  document_nodes_faults document = flat_map (node_faults document.fragments) (nodes document)

-- At each node of a document, an argument is given once: section 5.4.2 of GraphQL October 2021.
use Rattle.std.specs.Prelude.{List, ◌++◌}
use Rattle.std.specs.List.{flat_map}
use Rattle.gql_ast.specs.declared.operation.VariableDefinition.{VariableDefinition}
use Rattle.gql_ast_base.specs.declared.directive.Directive.{Directive}
use Rattle.gql_diag_messages.specs.declared.diagnostic_data.DiagnosticData.{DiagnosticData}
use Rattle.gql_rules_nodes.specs.Nodes.{Node, operation, fragment, field, spread, inline_fragment}
use Rattle.gql_rules_values.specs.UniqueArgument.{unique_argument}

abbrev pub directives_arguments : List Directive → List DiagnosticData
directives_arguments directives = flat_map (λ (used : Directive). unique_argument used.arguments) directives

abbrev pub variables_arguments : List VariableDefinition → List DiagnosticData
variables_arguments variables = flat_map (λ (variable : VariableDefinition). directives_arguments variable.directives) variables

-- the arguments of a field, and those of the directives at the node
abbrev pub node_arguments : Node → List DiagnosticData
node_arguments (operation node) = directives_arguments node.directives ++ variables_arguments node.variables
node_arguments (fragment node) = directives_arguments node.directives
node_arguments (field node) = unique_argument node.arguments ++ directives_arguments node.directives
node_arguments (spread node) = directives_arguments node.directives
node_arguments (inline_fragment node) = directives_arguments node.directives

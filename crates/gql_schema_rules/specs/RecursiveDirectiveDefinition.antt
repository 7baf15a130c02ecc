-- No directive is used in its own definition: on its arguments, or on the input types that these name: section 3.13 of GraphQL
-- October 2021. The standard goes on through the fields and values of these types; docs/DECISIONS.md says why this does not.
use Rattle.std.specs.Prelude.{ℕ, ◌+◌, List, [], ◌∷◌, ◌++◌, option_to_list, position, length, map}
use Rattle.std.specs.List.{flat_map}
use Rattle.std.specs.Option.{option_map_or}
use Rattle.gql_ast_base.specs.Names.{Named}
use Rattle.gql_ast.specs.declared.field_definition.InputValueDefinition.{InputValueDefinition}
use Rattle.gql_ast.specs.declared.schema_definition.DirectiveDefinition.{DirectiveDefinition}
use Rattle.gql_ast_base.specs.declared.directive.Directive.{Directive}
use Rattle.gql_diag_messages.specs.declared.rule.Rule.TheVariants.{RecursiveDirectiveDefinition}
use Rattle.gql_diag_messages.specs.declared.diagnostic_data.DiagnosticData.{DiagnosticData}
use Rattle.gql_ast_base.specs.TypeParts.{named_type}
use Rattle.gql_graph.specs.Graph.{Graph}
use Rattle.gql_schema_rules.specs.CycleFaults.{IsTold}
use Rattle.gql_schema_types.specs.Entries.{is_called}
use Rattle.gql_schema_types.specs.Types.{type_name}
use Rattle.gql_schema_types.specs.declared.types.ExtendedType.{ExtendedType}
use Rattle.gql_schema_types.specs.declared.types.ExtendedType.TheVariants as type

abbrev pub directive_name : DirectiveDefinition → Named
directive_name definition = definition.name

-- the directives on an input type itself
abbrev pub input_directives : ExtendedType → List Directive
input_directives (type.Scalar it) = it.directives
input_directives (type.Enum it) = it.directives
input_directives (type.InputObject it) = it.directives
input_directives _ = []

module _ (definitions : List DirectiveDefinition) where
  -- the number of the directive that is used
  abbrev pub directive_node : Directive → List ℕ
  directive_node used = option_to_list (position (is_called directive_name used.name.text) definitions)

  abbrev pub directive_nodes : List Directive → List ℕ
  directive_nodes directives = flat_map directive_node directives

  -- an edge leads from an input type to each directive on it
  abbrev pub type_edges : ExtendedType → List ℕ
  type_edges ty = directive_nodes (input_directives ty)

  module _ (types : List ExtendedType) where
    -- the number of a type, which stands behind those of the directives
    abbrev pub type_node : Named → List ℕ
    type_node name = option_map_or (λ v. (length definitions + v) ∷ []) (position (is_called type_name name.text) types) []

    -- an edge leads from a directive to each directive on its arguments, and to the types that these name
    abbrev pub argument_edges : InputValueDefinition → List ℕ
    argument_edges argument = directive_nodes argument.directives ++ type_node (named_type argument.ty)

    abbrev pub directive_edges : DirectiveDefinition → List ℕ
    directive_edges definition = flat_map argument_edges definition.arguments

    -- the directives, and behind them the types
    abbrev pub directive_graph : Graph
    directive_graph = map directive_edges definitions ++ map type_edges types

    abbrev pub AreRecursiveDirectives : List DiagnosticData → Type 0
    AreRecursiveDirectives told = IsTold directive_name RecursiveDirectiveDefinition directive_graph (length definitions) definitions told

-- A directive that is not repeatable stands once at a place: section 5.7.3 of GraphQL October 2021.
use Rattle.std.specs.Prelude.{Bool, false, not, List, Option}
use Rattle.std.specs.Option.{option_map_or}
use Rattle.gql_source.specs.Span.{Span}
use Rattle.gql_ast_base.specs.Names.{Named}
use Rattle.gql_ast.specs.declared.schema_definition.DirectiveDefinition.{DirectiveDefinition}
use Rattle.gql_ast_base.specs.declared.directive.Directive.{Directive}
use Rattle.gql_diag_messages.specs.declared.rule.Rule.TheVariants.{UniqueDirective}
use Rattle.gql_diag_messages.specs.declared.diagnostic_data.DiagnosticData.{DiagnosticData}
use Rattle.gql_rules_values.specs.Seconds.{seconds}
use Rattle.gql_schema_types.specs.Entries.{entry}

abbrev pub directive_name : DirectiveDefinition → Named
directive_name definition = definition.name

abbrev pub used_name : Directive → Named
used_name used = used.name

abbrev pub used_place : Directive → Option Span
used_place used = used.location

-- a directive of this name may not be repeated
abbrev pub is_single : List DirectiveDefinition → Named → Bool
is_single definitions name = option_map_or (λ definition. not definition.repeatable) (entry directive_name name.text definitions) false

-- each use at one place whose name came before there
abbrev pub unique_directive : List DirectiveDefinition → List Directive → List DiagnosticData
unique_directive definitions directives = seconds used_name used_place (is_single definitions) UniqueDirective directives

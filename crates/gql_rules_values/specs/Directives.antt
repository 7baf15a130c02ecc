-- The rules on the directives at one place: section 5.7 of GraphQL October 2021.
use Rattle.std.specs.Prelude.{true, List, ◌++◌, ◌∷◌}
use Rattle.std.specs.List.{flat_map}
use Rattle.std.specs.Option.{option_map_or}
use Rattle.gql_ast.specs.declared.schema_definition.DirectiveDefinition.{DirectiveDefinition}
use Rattle.gql_ast.specs.declared.schema_definition.DirectiveLocation.{DirectiveLocation}
use Rattle.gql_ast_base.specs.declared.directive.Directive.{Directive}
use Rattle.gql_diag_messages.specs.declared.diagnostic_data.DiagnosticData.{DiagnosticData}
use Rattle.gql_rules_values.specs.declared.known.Defined.{Defined}
use Rattle.gql_rules_values.specs.Arguments.{argument_faults, unknown_argument_faults}
use Rattle.gql_rules_values.specs.UndefinedDirective.{undefined_directive}
use Rattle.gql_rules_values.specs.UniqueDirective.{directive_name, unique_directive}
use Rattle.gql_rules_values.specs.UnsupportedLocation.{unsupported_location}
use Rattle.gql_schema_types.specs.Entries.{entry}
use Rattle.gql_schema_types.specs.declared.types.ExtendedType.{ExtendedType}

-- a use without a definition
abbrev pub undefined_use : Defined → List ExtendedType → Directive → List DiagnosticData
undefined_use defined types used = undefined_directive used ∷ unknown_argument_faults defined types used.arguments

module _ (defined : Defined) (types : List ExtendedType) (location : DirectiveLocation) where
  -- a use by its definition
  abbrev pub defined_use : Directive → DirectiveDefinition → List DiagnosticData
  defined_use used definition =
      unsupported_location definition location used ++ argument_faults defined types true used.name.text used.location definition.arguments used.arguments

  module _ (definitions : List DirectiveDefinition) where
    abbrev pub use_faults : Directive → List DiagnosticData
    use_faults used = option_map_or (defined_use used) (entry directive_name used.name.text definitions) (undefined_use defined types used)

    -- what is wrong with the directives at one place of this kind
    abbrev pub directive_faults : List Directive → List DiagnosticData
    directive_faults directives = unique_directive definitions directives ++ flat_map use_faults directives

-- A directive stands where its definition allows it: section 5.7.2 of GraphQL October 2021.
use Rattle.std.specs.Prelude.{Bool, not, List, ◌∷◌, [], None}
use Rattle.std.specs.List.{list_any}
use Rattle.std.specs.Str.{bytes_eq}
use Rattle.gql_ast.specs.declared.schema_definition.DirectiveDefinition.{DirectiveDefinition}
use Rattle.gql_ast.specs.declared.schema_definition.DirectiveLocation.{DirectiveLocation}
use Rattle.gql_ast.specs.Schemas.{location_name}
use Rattle.gql_ast_base.specs.declared.directive.Directive.{Directive}
use Rattle.gql_diag_messages.specs.declared.rule.Rule.TheVariants.{UnsupportedLocation}
use Rattle.gql_diag_messages.specs.declared.diagnostic_data.DiagnosticData.{DiagnosticData}
use Rattle.gql_rules_values.specs.Faults.{fault, only_if}

abbrev pub allows : List DirectiveLocation → DirectiveLocation → Bool
allows locations location = list_any (λ known. bytes_eq (location_name location) (location_name known)) locations

-- a use where the definition does not allow it
abbrev pub unsupported_location : DirectiveDefinition → DirectiveLocation → Directive → List DiagnosticData
unsupported_location definition location use_of =
    only_if (not (allows definition.locations location)) (fault UnsupportedLocation (use_of.name.text ∷ location_name location ∷ []) use_of.location None)

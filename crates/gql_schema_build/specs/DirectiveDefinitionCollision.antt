-- Directives have distinct names: section 3.3 of GraphQL October 2021.
use Rattle.std.specs.Prelude.{List, [], map}
use Rattle.gql_ast_base.specs.Names.{Named}
use Rattle.gql_ast.specs.declared.schema_definition.DirectiveDefinition.{DirectiveDefinition}
use Rattle.gql_diag_messages.specs.declared.rule.Rule.TheVariants.{DirectiveDefinitionCollision}
use Rattle.gql_diag_messages.specs.declared.diagnostic_data.DiagnosticData.{DiagnosticData}
use Rattle.gql_schema_types.specs.Entries.{repeats}
use Rattle.gql_schema_build.specs.Faults.{name_fault}

abbrev pub directive_name : DirectiveDefinition → Named
directive_name d = d.name

abbrev pub second_directive : DirectiveDefinition × DirectiveDefinition → DiagnosticData
second_directive pair = name_fault DirectiveDefinitionCollision pair.0.name pair.1.name.location

-- one for each definition of a name that came before
abbrev pub directive_definition_collisions : List DirectiveDefinition → List DiagnosticData
directive_definition_collisions ds = map second_directive (repeats directive_name [] ds)

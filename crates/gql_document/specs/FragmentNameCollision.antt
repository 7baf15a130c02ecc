-- Fragments have distinct names: section 5.5.1.1 of GraphQL October 2021.
use Rattle.std.specs.Prelude.{List, [], map}
use Rattle.gql_ast_base.specs.Names.{Named}
use Rattle.gql_ast.specs.declared.operation.FragmentDefinition.{FragmentDefinition}
use Rattle.gql_diag_messages.specs.declared.rule.Rule.TheVariants.{FragmentNameCollision}
use Rattle.gql_diag_messages.specs.declared.diagnostic_data.DiagnosticData.{DiagnosticData}
use Rattle.gql_schema_types.specs.Entries.{joined, repeats}
use Rattle.gql_document.specs.Faults.{name_fault}

abbrev pub fragment_name : FragmentDefinition → Named
fragment_name fragment = fragment.name

-- the first of each name
abbrev pub first_fragments : List FragmentDefinition → List FragmentDefinition
first_fragments fragments = joined fragment_name [] fragments

abbrev pub fragment_name_collision : FragmentDefinition × FragmentDefinition → DiagnosticData
fragment_name_collision pair = name_fault FragmentNameCollision pair.0.name pair.1.name.location

-- one for each fragment that has the name of one that came before
abbrev pub fragment_name_collisions : List FragmentDefinition → List DiagnosticData
fragment_name_collisions fragments = map fragment_name_collision (repeats fragment_name [] fragments)

use Rattle.std.proofs.Common.{subst}
use Rattle.gql_rules_nodes.specs.PossibleTable.{ArePossibleIn}
use Rattle.gql_schema_types.specs.declared.schema.Schema.{Schema}
use Rattle.gql_engine.proofs.service.Service.of_schema.Goals as goal

pub invariant_of-result : goal.invariant_of-result
invariant_of-result c = record {
  means = c.requires;
  are_possible = subst (λ (schema : Schema). ArePossibleIn schema.types c.in_ok-possible.possible) c.as_ref.ensures c.in_ok-possible.ensures;
}

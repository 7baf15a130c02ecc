use Rattle.gql_schema_types.proofs.Joins.{empty-distinct}
use Rattle.gql_schema_types.proofs.table.Table.with_capacity.Goals as goal

pub invariant_of-result : goal.invariant_of-result
invariant_of-result g c = (empty-distinct g.T.Named.own _ c.in_ok-with_capacity.ensures.items, tt)

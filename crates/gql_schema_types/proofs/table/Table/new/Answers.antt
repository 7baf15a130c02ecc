use Rattle.gql_schema_types.proofs.Joins.{empty-distinct}
use Rattle.gql_schema_types.proofs.table.Table.new.Goals as goal

pub invariant_of-result : goal.invariant_of-result
invariant_of-result g c = (empty-distinct g.T.Named.own _ c.new.ensures.items, tt)

use Rattle.gql_cost.proofs.SmallQueries.{twice, undefined}
use Rattle.gql_cost.proofs.examples.each_spread_costs_its_fragment.Goals as goal

pub returns-clause-twice : goal.returns-clause-twice
returns-clause-twice c = twice

pub returns-clause-undefined : goal.returns-clause-undefined
returns-clause-undefined c = undefined

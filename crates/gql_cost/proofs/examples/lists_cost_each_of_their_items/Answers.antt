use Rattle.gql_cost.proofs.SmallQueries.{lists}
use Rattle.gql_cost.proofs.examples.lists_cost_each_of_their_items.Goals as goal

pub returns-clause-any : goal.returns-clause-any
returns-clause-any c = lists

pub returns-clause-ten : goal.returns-clause-ten
returns-clause-ten c = lists 10

pub returns-clause-none : goal.returns-clause-none
returns-clause-none c = lists 0

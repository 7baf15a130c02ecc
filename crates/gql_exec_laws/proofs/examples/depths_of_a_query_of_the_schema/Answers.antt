use Rattle.gql_exec_laws.proofs.DeepFields.{depth-two, depth-three, depth-again}
use Rattle.gql_exec_laws.proofs.examples.depths_of_a_query_of_the_schema.Goals as goal

pub returns-clause-two : goal.returns-clause-two
returns-clause-two c = depth-two

pub returns-clause-three : goal.returns-clause-three
returns-clause-three c = depth-three

pub returns-clause-again : goal.returns-clause-again
returns-clause-again c = depth-again

use Rattle.gql_valid_laws.proofs.Worked.{lists-counted}
use Rattle.gql_valid_laws.proofs.examples.two_lists_are_inside_one_another.Goals as goal

pub returns : goal.returns
returns c = λ name. lists-counted name

use Rattle.gql_exec_laws.proofs.InnerNull.{known_alone}
use Rattle.gql_exec_laws.proofs.laws.a_null_goes_outward.Goals as goal

pub returns : goal.returns
returns c = known_alone

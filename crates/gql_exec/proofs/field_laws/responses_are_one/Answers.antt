use Rattle.gql_exec.proofs.OneResponse.{one-response}
use Rattle.gql_exec.proofs.field_laws.responses_are_one.Goals as goal

pub returns : goal.returns
returns types c = λ r root initial selections one other first second. one-response r root initial selections one other first second

use Rattle.gql_checker_laws.proofs.Monotone.{read-explained}
use Rattle.gql_checker_laws.proofs.verdict_laws.explained_responses_read_as_explained.Goals as goal

pub returns : goal.returns
returns types c = λ w root initial all response faults explained. read-explained w root initial all response faults explained

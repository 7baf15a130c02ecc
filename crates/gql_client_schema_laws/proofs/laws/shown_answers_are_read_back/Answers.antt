-- An answer as it is read.
use Rattle.gql_client_schema_laws.proofs.ReadBack.{answer_gives}
use Rattle.gql_client_schema_laws.proofs.laws.shown_answers_are_read_back.Goals as goal

pub returns : goal.returns
returns c = λ shown members proper is. answer_gives shown proper members is

use Rattle.gql_exec.proofs.Lawful.{lawful}
use Rattle.gql_exec.proofs.field_laws.worlds_are_lawful.Goals as goal

pub returns : goal.returns
returns types c = λ r. lawful r

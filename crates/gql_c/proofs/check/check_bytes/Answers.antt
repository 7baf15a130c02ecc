use Rattle.gql_c.specs.Checks.{no_schema}
use Rattle.gql_c.proofs.check.check_bytes.Goals as goal

pub returns-in-Ok : goal.returns-in-Ok
returns-in-Ok c = rw c.in-Ok.ensures.cases.0 at c.check_query_bytes.ensures

pub returns-in-Err : goal.returns-in-Err
returns-in-Err c = no_schema c.in-Err.ensures.cases.0

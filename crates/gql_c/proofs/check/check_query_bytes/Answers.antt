use Rattle.gql_c.specs.Checks.{texts, no_query}
use Rattle.gql_c.proofs.check.check_query_bytes.Goals as goal

pub returns-in-Ok : goal.returns-in-Ok
returns-in-Ok c = texts c.check_texts.result c.utf8.schema c.in-Ok.ensures.cases.1 (rw c.in-Ok.ensures.cases.0 at c.check_texts.ensures)

pub returns-in-Err : goal.returns-in-Err
returns-in-Err c = no_query c.in-Err.ensures.cases.0

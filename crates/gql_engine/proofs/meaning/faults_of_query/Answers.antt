use Rattle.gql_engine.specs.Meant.{no_document}
use Rattle.gql_engine.proofs.meaning.faults_of_query.Goals as goal

pub returns-in-Err-Fault : goal.returns-in-Err-Fault
returns-in-Err-Fault c = no_document c.in-Err-Fault.list (rw c.in-Err-Fault.field-0-is at c.in-Err-Fault.ensures)

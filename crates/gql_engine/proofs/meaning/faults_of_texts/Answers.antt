use Rattle.gql_engine.specs.Meant.{no_schema}
use Rattle.gql_engine.proofs.meaning.faults_of_texts.Goals as goal

pub returns-in-Err-Fault : goal.returns-in-Err-Fault
returns-in-Err-Fault c = rw c.in-Err-Fault.field-0-is (no_schema c.in-Err-Fault.list (rw c.in-Err-Fault.field-0-is at c.in-Err-Fault.ensures))

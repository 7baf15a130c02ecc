use Rattle.gql_c.specs.Data.{broken}
use Rattle.gql_c.proofs.data_new.read_bytes.Goals as goal

pub returns-in-Err-Fault : goal.returns-in-Err-Fault
returns-in-Err-Fault c = broken c.in-Err-Fault.field-0-0 (rw c.in-Err-Fault.field-0-is at c.in-Err-Fault.ensures.broken)

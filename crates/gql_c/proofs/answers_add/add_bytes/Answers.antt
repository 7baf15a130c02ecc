use Rattle.gql_c.proofs.answers_add.add_bytes.Goals as goal

pub returns-in-Err-Fault : goal.returns-in-Err-Fault
returns-in-Err-Fault c = (
  record { fault = c.in-Err-Fault.field-0-0; is = rw c.in-Err-Fault.field-0-is at c.in-Err-Fault.ensures.refused },
  rw c.in-Err-Fault.field-0-is at c.in-Err-Fault.ensures.left,
)

pub returns-in-Err-Memory : goal.returns-in-Err-Memory
returns-in-Err-Memory c = rw c.in-Err-Memory.field-0-is at c.in-Err-Memory.ensures.left

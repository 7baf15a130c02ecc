use Rattle.gql_client_schema.specs.Reading.{item}
use Rattle.gql_client_schema.proofs.Readings.{under_gives, under_path}
use Rattle.gql_client_schema.proofs.path.in_item.Goals as goal

pub returns-in-Ok : goal.returns-in-Ok
returns-in-Ok g c = λ m h. under_gives (item c.args.index) m c.in-Ok.found (rw c.in-Ok.is at h)

pub returns-in-Err-Fault : goal.returns-in-Err-Fault
returns-in-Err-Fault g c =
    λ m h. under_path (item c.args.index) m c.in-Err-Fault.path c.behind_item.result (rw (c.in-Err-Fault.is, c.in-Err-Fault.field-0-is) at h) c.behind_item.ensures

pub returns-in-Err-Memory : goal.returns-in-Err-Memory
returns-in-Err-Memory g c = λ m h. tt

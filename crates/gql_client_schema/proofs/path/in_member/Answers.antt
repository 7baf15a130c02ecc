use Rattle.gql_client_schema.specs.Reading.{member}
use Rattle.gql_client_schema.proofs.Readings.{under_gives, under_path}
use Rattle.gql_client_schema.proofs.path.in_member.Goals as goal

pub returns-in-Ok : goal.returns-in-Ok
returns-in-Ok g c = λ m h. under_gives (member c.args.name.now) m c.in-Ok.found (rw c.in-Ok.is at h)

pub returns-in-Err-Fault : goal.returns-in-Err-Fault
returns-in-Err-Fault g c =
    λ m h. under_path (member c.args.name.now) m c.in-Err-Fault.path c.behind_member.result (rw (c.in-Err-Fault.is, c.in-Err-Fault.field-0-is) at h) c.behind_member.ensures

pub returns-in-Err-Memory : goal.returns-in-Err-Memory
returns-in-Err-Memory g c = λ m h. tt

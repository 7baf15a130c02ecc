use Rattle.gql_client_schema.proofs.Readings.{both_goes, both_stops}
use Rattle.gql_client_schema.proofs.reading.both.Goals as goal

pub returns-in-Ok : goal.returns-in-Ok
returns-in-Ok g c = λ m n h k. both_goes m n c.in-Ok.one c.with.result (rw c.in-Ok.is at h) (c.with.ensures n k)

pub returns-in-Err : goal.returns-in-Err
returns-in-Err g c = λ m n h k. both_stops m n c.in-Err.unread (rw c.in-Err.is at h)

use Rattle.gql_client_schema.proofs.Readings.{mapped_gives, mapped_stops}
use Rattle.gql_client_schema.proofs.reading.with.Goals as goal

pub returns-in-Ok : goal.returns-in-Ok
returns-in-Ok g c = λ n k. mapped_gives (λ found. (c.args.one, found)) n c.in-Ok.other (rw c.in-Ok.is at k)

pub returns-in-Err : goal.returns-in-Err
returns-in-Err g c = λ n k. mapped_stops (λ found. (c.args.one, found)) n c.in-Err.unread (rw c.in-Err.is at k)

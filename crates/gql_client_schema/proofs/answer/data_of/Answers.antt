use Rattle.std.proofs.Common.{codes}
use Rattle.gql_client_schema.specs.Members.{required}
use Rattle.gql_client_schema.specs.Parts.{data_by, read_schema}
use Rattle.gql_client_schema.proofs.Readings.{mapped_gives, mapped_stops}
use Rattle.gql_client_schema.proofs.answer.data_of.Goals as goal

pub returns-in-Ok : goal.returns-in-Ok
returns-in-Ok c = mapped_gives data_by (required read_schema (codes "__schema") c.args.members.now) c.in-Ok.schema c.in-Ok.ensures

pub returns-in-Err : goal.returns-in-Err
returns-in-Err c = mapped_stops data_by (required read_schema (codes "__schema") c.args.members.now) c.in-Err.unread c.in-Err.ensures

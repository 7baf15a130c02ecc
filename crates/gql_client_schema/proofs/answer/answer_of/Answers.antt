use Rattle.std.proofs.Common.{codes}
use Rattle.gql_client_schema.specs.Members.{required}
use Rattle.gql_client_schema.specs.Parts.{read_data, schema_in}
use Rattle.gql_client_schema.proofs.Readings.{mapped_makes, mapped_stops}
use Rattle.gql_client_schema.proofs.answer.answer_of.Goals as goal

pub returns-in-Ok : goal.returns-in-Ok
returns-in-Ok c =
    mapped_makes schema_in (required read_data (codes "data") c.args.members.now) c.in-Ok.found c.schema_in.result c.schema_in.ensures c.in-Ok.ensures

pub returns-in-Err : goal.returns-in-Err
returns-in-Err c = mapped_stops schema_in (required read_data (codes "data") c.args.members.now) c.in-Err.unread c.in-Err.ensures

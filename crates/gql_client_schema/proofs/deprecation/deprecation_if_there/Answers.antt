use Rattle.std.proofs.Common.{codes, false}
use Rattle.gql_client_schema.specs.Members.{spared, read_truth}
use Rattle.gql_client_schema.specs.Parts.{deprecation_by, spared_parts, reason_in}
use Rattle.gql_client_schema.proofs.Readings.{mapped_makes, mapped_stops}
use Rattle.gql_client_schema.proofs.deprecation.deprecation_if_there.Goals as goal

pub returns-in-Ok : goal.returns-in-Ok
returns-in-Ok c =
    let ms = c.args.members.now in
    mapped_makes deprecation_by (spared_parts ms) c.in-Ok.parts c.deprecation_by.result c.deprecation_by.ensures
    (c.in-Ok.ensures (spared read_truth false (codes "isDeprecated") ms) (reason_in ms) c.spared-is_deprecated.ensures c.reason_in.ensures)

pub returns-in-Err : goal.returns-in-Err
returns-in-Err c =
    let ms = c.args.members.now in
    mapped_stops deprecation_by (spared_parts ms) c.in-Err.unread
    (c.in-Err.ensures (spared read_truth false (codes "isDeprecated") ms) (reason_in ms) c.spared-is_deprecated.ensures c.reason_in.ensures)

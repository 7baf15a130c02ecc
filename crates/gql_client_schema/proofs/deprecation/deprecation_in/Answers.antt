use Rattle.std.proofs.Common.{codes}
use Rattle.gql_client_schema.specs.Members.{required, read_truth}
use Rattle.gql_client_schema.specs.Parts.{deprecation_by, deprecation_parts, reason_in}
use Rattle.gql_client_schema.proofs.Readings.{mapped_makes, mapped_stops}
use Rattle.gql_client_schema.proofs.deprecation.deprecation_in.Goals as goal

pub returns-in-Ok : goal.returns-in-Ok
returns-in-Ok c =
    let ms = c.args.members.now in
    mapped_makes deprecation_by (deprecation_parts ms) c.in-Ok.parts c.deprecation_by.result c.deprecation_by.ensures
    (c.in-Ok.ensures (required read_truth (codes "isDeprecated") ms) (reason_in ms) c.required-is_deprecated.ensures c.reason_in.ensures)

pub returns-in-Err : goal.returns-in-Err
returns-in-Err c =
    let ms = c.args.members.now in
    mapped_stops deprecation_by (deprecation_parts ms) c.in-Err.unread
    (c.in-Err.ensures (required read_truth (codes "isDeprecated") ms) (reason_in ms) c.required-is_deprecated.ensures c.reason_in.ensures)

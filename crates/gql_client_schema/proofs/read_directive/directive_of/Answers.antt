use Rattle.std.proofs.Common.{codes, None, false}
use Rattle.gql_client_schema.specs.Members as members
use Rattle.gql_client_schema.specs.Parts as parts
use Rattle.gql_client_schema.specs.Reading.{both, gives}
use Rattle.gql_client_schema.specs.References.{read_reference}
use Rattle.gql_client_schema.proofs.Readings.{mapped_gives, mapped_stops}
use Rattle.gql_client_schema.proofs.read_directive.directive_of.Goals as goal

pub returns-in-Ok : goal.returns-in-Ok
returns-in-Ok c =
    let ms = c.args.members.now in
    mapped_gives parts.directive_by (parts.directive_parts ms) c.in-Ok.parts
    (c.in-Ok.ensures (members.required members.read_name (codes "name") ms) (both (members.description_in ms) (both (members.spared members.read_truth false (codes "isRepeatable") ms) (both (members.required (members.read_list parts.read_location) (codes "locations") ms) (members.required (members.read_list parts.read_input) (codes "args") ms)))) c.required-name.ensures
    (c.both-3.ensures (members.description_in ms) (both (members.spared members.read_truth false (codes "isRepeatable") ms) (both (members.required (members.read_list parts.read_location) (codes "locations") ms) (members.required (members.read_list parts.read_input) (codes "args") ms))) c.description_in-description.ensures
    (c.both-2.ensures (members.spared members.read_truth false (codes "isRepeatable") ms) (both (members.required (members.read_list parts.read_location) (codes "locations") ms) (members.required (members.read_list parts.read_input) (codes "args") ms)) c.spared-is_repeatable.ensures
    (c.both.ensures (members.required (members.read_list parts.read_location) (codes "locations") ms) (members.required (members.read_list parts.read_input) (codes "args") ms) c.required-locations.ensures
    c.required-arguments.ensures))))

pub returns-in-Err : goal.returns-in-Err
returns-in-Err c =
    let ms = c.args.members.now in
    mapped_stops parts.directive_by (parts.directive_parts ms) c.in-Err.unread
    (c.in-Err.ensures (members.required members.read_name (codes "name") ms) (both (members.description_in ms) (both (members.spared members.read_truth false (codes "isRepeatable") ms) (both (members.required (members.read_list parts.read_location) (codes "locations") ms) (members.required (members.read_list parts.read_input) (codes "args") ms)))) c.required-name.ensures
    (c.both-3.ensures (members.description_in ms) (both (members.spared members.read_truth false (codes "isRepeatable") ms) (both (members.required (members.read_list parts.read_location) (codes "locations") ms) (members.required (members.read_list parts.read_input) (codes "args") ms))) c.description_in-description.ensures
    (c.both-2.ensures (members.spared members.read_truth false (codes "isRepeatable") ms) (both (members.required (members.read_list parts.read_location) (codes "locations") ms) (members.required (members.read_list parts.read_input) (codes "args") ms)) c.spared-is_repeatable.ensures
    (c.both.ensures (members.required (members.read_list parts.read_location) (codes "locations") ms) (members.required (members.read_list parts.read_input) (codes "args") ms) c.required-locations.ensures
    c.required-arguments.ensures))))

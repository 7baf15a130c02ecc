use Rattle.std.proofs.Common.{codes, None, false}
use Rattle.gql_client_schema.specs.Members as members
use Rattle.gql_client_schema.specs.Parts as parts
use Rattle.gql_client_schema.specs.Reading.{both, gives}
use Rattle.gql_client_schema.specs.References.{read_reference}
use Rattle.gql_client_schema.proofs.Readings.{mapped_gives, mapped_stops}
use Rattle.gql_client_schema.proofs.read_field.field_of.Goals as goal

pub returns-in-Ok : goal.returns-in-Ok
returns-in-Ok c =
    let ms = c.args.members.now in
    mapped_gives parts.field_by (parts.field_parts ms) c.in-Ok.parts
    (c.in-Ok.ensures (members.required members.read_name (codes "name") ms) (both (members.description_in ms) (both (members.required (members.read_list parts.read_input) (codes "args") ms) (both (members.required read_reference (codes "type") ms) (parts.deprecation_in ms)))) c.required-name.ensures
    (c.both-3.ensures (members.description_in ms) (both (members.required (members.read_list parts.read_input) (codes "args") ms) (both (members.required read_reference (codes "type") ms) (parts.deprecation_in ms))) c.description_in-description.ensures
    (c.both-2.ensures (members.required (members.read_list parts.read_input) (codes "args") ms) (both (members.required read_reference (codes "type") ms) (parts.deprecation_in ms)) c.required-arguments.ensures
    (c.both.ensures (members.required read_reference (codes "type") ms) (parts.deprecation_in ms) c.required-ty.ensures
    c.deprecation_in-deprecation.ensures))))

pub returns-in-Err : goal.returns-in-Err
returns-in-Err c =
    let ms = c.args.members.now in
    mapped_stops parts.field_by (parts.field_parts ms) c.in-Err.unread
    (c.in-Err.ensures (members.required members.read_name (codes "name") ms) (both (members.description_in ms) (both (members.required (members.read_list parts.read_input) (codes "args") ms) (both (members.required read_reference (codes "type") ms) (parts.deprecation_in ms)))) c.required-name.ensures
    (c.both-3.ensures (members.description_in ms) (both (members.required (members.read_list parts.read_input) (codes "args") ms) (both (members.required read_reference (codes "type") ms) (parts.deprecation_in ms))) c.description_in-description.ensures
    (c.both-2.ensures (members.required (members.read_list parts.read_input) (codes "args") ms) (both (members.required read_reference (codes "type") ms) (parts.deprecation_in ms)) c.required-arguments.ensures
    (c.both.ensures (members.required read_reference (codes "type") ms) (parts.deprecation_in ms) c.required-ty.ensures
    c.deprecation_in-deprecation.ensures))))

use Rattle.std.proofs.Common.{codes, None, false}
use Rattle.gql_client_schema.specs.Members as members
use Rattle.gql_client_schema.specs.Parts as parts
use Rattle.gql_client_schema.specs.Reading.{both, gives}
use Rattle.gql_client_schema.specs.References.{read_reference}
use Rattle.gql_client_schema.proofs.Readings.{mapped_makes, mapped_stops}
use Rattle.gql_client_schema.proofs.read_type.traits_of.Goals as goal

pub returns-in-Ok : goal.returns-in-Ok
returns-in-Ok c =
    let ms = c.args.members.now in
    mapped_makes parts.traits_by (parts.traits_parts ms) c.in-Ok.parts c.traits_by.result c.traits_by.ensures
    (c.in-Ok.ensures (members.description_in ms) (both (members.spared (members.or_null members.read_text) None (codes "specifiedByURL") ms) (members.spared (members.or_null members.read_truth) None (codes "isOneOf") ms)) c.description_in-description.ensures
    (c.both.ensures (members.spared (members.or_null members.read_text) None (codes "specifiedByURL") ms) (members.spared (members.or_null members.read_truth) None (codes "isOneOf") ms) c.spared-specified_by_url.ensures
    c.spared-is_one_of.ensures))

pub returns-in-Err : goal.returns-in-Err
returns-in-Err c =
    let ms = c.args.members.now in
    mapped_stops parts.traits_by (parts.traits_parts ms) c.in-Err.unread
    (c.in-Err.ensures (members.description_in ms) (both (members.spared (members.or_null members.read_text) None (codes "specifiedByURL") ms) (members.spared (members.or_null members.read_truth) None (codes "isOneOf") ms)) c.description_in-description.ensures
    (c.both.ensures (members.spared (members.or_null members.read_text) None (codes "specifiedByURL") ms) (members.spared (members.or_null members.read_truth) None (codes "isOneOf") ms) c.spared-specified_by_url.ensures
    c.spared-is_one_of.ensures))

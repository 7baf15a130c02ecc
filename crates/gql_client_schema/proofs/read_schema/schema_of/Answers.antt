use Rattle.std.proofs.Common.{codes, None, false}
use Rattle.gql_client_schema.specs.Members as members
use Rattle.gql_client_schema.specs.Parts as parts
use Rattle.gql_client_schema.specs.Reading.{both, gives}
use Rattle.gql_client_schema.specs.References.{read_reference}
use Rattle.gql_client_schema.proofs.Readings.{mapped_makes, mapped_stops}
use Rattle.gql_client_schema.proofs.read_schema.schema_of.Goals as goal

pub returns-in-Ok : goal.returns-in-Ok
returns-in-Ok c =
    let ms = c.args.members.now in
    mapped_makes parts.schema_by (parts.schema_parts ms) c.in-Ok.parts c.schema_by.result c.schema_by.ensures
    (c.in-Ok.ensures (members.description_in ms) (both (members.required parts.read_root (codes "queryType") ms) (both (members.required (members.or_null parts.read_root) (codes "mutationType") ms) (both (members.required (members.or_null parts.read_root) (codes "subscriptionType") ms) (both (members.required (members.read_list parts.read_type) (codes "types") ms) (members.required (members.read_list parts.read_directive) (codes "directives") ms))))) c.description_in-description.ensures
    (c.both-4.ensures (members.required parts.read_root (codes "queryType") ms) (both (members.required (members.or_null parts.read_root) (codes "mutationType") ms) (both (members.required (members.or_null parts.read_root) (codes "subscriptionType") ms) (both (members.required (members.read_list parts.read_type) (codes "types") ms) (members.required (members.read_list parts.read_directive) (codes "directives") ms)))) c.required-query.ensures
    (c.both-3.ensures (members.required (members.or_null parts.read_root) (codes "mutationType") ms) (both (members.required (members.or_null parts.read_root) (codes "subscriptionType") ms) (both (members.required (members.read_list parts.read_type) (codes "types") ms) (members.required (members.read_list parts.read_directive) (codes "directives") ms))) c.required-mutation.ensures
    (c.both-2.ensures (members.required (members.or_null parts.read_root) (codes "subscriptionType") ms) (both (members.required (members.read_list parts.read_type) (codes "types") ms) (members.required (members.read_list parts.read_directive) (codes "directives") ms)) c.required-subscription.ensures
    (c.both.ensures (members.required (members.read_list parts.read_type) (codes "types") ms) (members.required (members.read_list parts.read_directive) (codes "directives") ms) c.required-types.ensures
    c.required-directives.ensures)))))

pub returns-in-Err : goal.returns-in-Err
returns-in-Err c =
    let ms = c.args.members.now in
    mapped_stops parts.schema_by (parts.schema_parts ms) c.in-Err.unread
    (c.in-Err.ensures (members.description_in ms) (both (members.required parts.read_root (codes "queryType") ms) (both (members.required (members.or_null parts.read_root) (codes "mutationType") ms) (both (members.required (members.or_null parts.read_root) (codes "subscriptionType") ms) (both (members.required (members.read_list parts.read_type) (codes "types") ms) (members.required (members.read_list parts.read_directive) (codes "directives") ms))))) c.description_in-description.ensures
    (c.both-4.ensures (members.required parts.read_root (codes "queryType") ms) (both (members.required (members.or_null parts.read_root) (codes "mutationType") ms) (both (members.required (members.or_null parts.read_root) (codes "subscriptionType") ms) (both (members.required (members.read_list parts.read_type) (codes "types") ms) (members.required (members.read_list parts.read_directive) (codes "directives") ms)))) c.required-query.ensures
    (c.both-3.ensures (members.required (members.or_null parts.read_root) (codes "mutationType") ms) (both (members.required (members.or_null parts.read_root) (codes "subscriptionType") ms) (both (members.required (members.read_list parts.read_type) (codes "types") ms) (members.required (members.read_list parts.read_directive) (codes "directives") ms))) c.required-mutation.ensures
    (c.both-2.ensures (members.required (members.or_null parts.read_root) (codes "subscriptionType") ms) (both (members.required (members.read_list parts.read_type) (codes "types") ms) (members.required (members.read_list parts.read_directive) (codes "directives") ms)) c.required-subscription.ensures
    (c.both.ensures (members.required (members.read_list parts.read_type) (codes "types") ms) (members.required (members.read_list parts.read_directive) (codes "directives") ms) c.required-types.ensures
    c.required-directives.ensures)))))

use Rattle.std.proofs.Common.{codes, None, false}
use Rattle.gql_client_schema.specs.Members as members
use Rattle.gql_client_schema.specs.Parts as parts
use Rattle.gql_client_schema.specs.Reading.{both, gives}
use Rattle.gql_client_schema.specs.References.{read_reference}
use Rattle.gql_client_schema.proofs.Readings.{mapped_gives, mapped_stops}
use Rattle.gql_client_schema.proofs.read_type.lists_of.Goals as goal

pub returns-in-Ok : goal.returns-in-Ok
returns-in-Ok c =
    let ms = c.args.members.now in
    mapped_gives parts.lists_by (parts.lists_parts ms) c.in-Ok.parts
    (c.in-Ok.ensures (members.required (members.read_list_or_null parts.read_field) (codes "fields") ms) (both (members.required (members.read_list_or_null parts.read_input) (codes "inputFields") ms) (both (members.required (members.read_list_or_null read_reference) (codes "interfaces") ms) (both (members.required (members.read_list_or_null read_reference) (codes "possibleTypes") ms) (members.required (members.read_list_or_null parts.read_enum_value) (codes "enumValues") ms)))) c.required_list-fields.ensures
    (c.both-3.ensures (members.required (members.read_list_or_null parts.read_input) (codes "inputFields") ms) (both (members.required (members.read_list_or_null read_reference) (codes "interfaces") ms) (both (members.required (members.read_list_or_null read_reference) (codes "possibleTypes") ms) (members.required (members.read_list_or_null parts.read_enum_value) (codes "enumValues") ms))) c.required_list-input_fields.ensures
    (c.both-2.ensures (members.required (members.read_list_or_null read_reference) (codes "interfaces") ms) (both (members.required (members.read_list_or_null read_reference) (codes "possibleTypes") ms) (members.required (members.read_list_or_null parts.read_enum_value) (codes "enumValues") ms)) c.required_list-interfaces.ensures
    (c.both.ensures (members.required (members.read_list_or_null read_reference) (codes "possibleTypes") ms) (members.required (members.read_list_or_null parts.read_enum_value) (codes "enumValues") ms) c.required_list-possible_types.ensures
    c.required_list-enum_values.ensures))))

pub returns-in-Err : goal.returns-in-Err
returns-in-Err c =
    let ms = c.args.members.now in
    mapped_stops parts.lists_by (parts.lists_parts ms) c.in-Err.unread
    (c.in-Err.ensures (members.required (members.read_list_or_null parts.read_field) (codes "fields") ms) (both (members.required (members.read_list_or_null parts.read_input) (codes "inputFields") ms) (both (members.required (members.read_list_or_null read_reference) (codes "interfaces") ms) (both (members.required (members.read_list_or_null read_reference) (codes "possibleTypes") ms) (members.required (members.read_list_or_null parts.read_enum_value) (codes "enumValues") ms)))) c.required_list-fields.ensures
    (c.both-3.ensures (members.required (members.read_list_or_null parts.read_input) (codes "inputFields") ms) (both (members.required (members.read_list_or_null read_reference) (codes "interfaces") ms) (both (members.required (members.read_list_or_null read_reference) (codes "possibleTypes") ms) (members.required (members.read_list_or_null parts.read_enum_value) (codes "enumValues") ms))) c.required_list-input_fields.ensures
    (c.both-2.ensures (members.required (members.read_list_or_null read_reference) (codes "interfaces") ms) (both (members.required (members.read_list_or_null read_reference) (codes "possibleTypes") ms) (members.required (members.read_list_or_null parts.read_enum_value) (codes "enumValues") ms)) c.required_list-interfaces.ensures
    (c.both.ensures (members.required (members.read_list_or_null read_reference) (codes "possibleTypes") ms) (members.required (members.read_list_or_null parts.read_enum_value) (codes "enumValues") ms) c.required_list-possible_types.ensures
    c.required_list-enum_values.ensures))))

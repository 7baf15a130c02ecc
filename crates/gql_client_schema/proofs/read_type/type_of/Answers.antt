use Rattle.gql_client_schema.specs.Parts.{lists_of, traits_of, type_parts, whole_type}
use Rattle.gql_client_schema.specs.Reading.{both}
use Rattle.gql_client_schema.specs.References.{head_of}
use Rattle.gql_client_schema.proofs.Readings.{goes, stops}
use Rattle.gql_client_schema.proofs.read_type.type_of.Goals as goal

pub returns-in-Ok : goal.returns-in-Ok
returns-in-Ok c =
    let ms = c.args.members.now in
    goes whole_type (type_parts ms) c.in-Ok.parts c.whole_type.result
    (c.in-Ok.ensures (head_of ms) (both (traits_of ms) (lists_of ms)) c.head_of-head.ensures
    (c.both.ensures (traits_of ms) (lists_of ms) c.traits_of-traits.ensures c.lists_of-lists.ensures))
    c.whole_type.ensures

pub returns-in-Err : goal.returns-in-Err
returns-in-Err c =
    let ms = c.args.members.now in
    stops whole_type (type_parts ms) c.in-Err.unread
    (c.in-Err.ensures (head_of ms) (both (traits_of ms) (lists_of ms)) c.head_of-head.ensures
    (c.both.ensures (traits_of ms) (lists_of ms) c.traits_of-traits.ensures c.lists_of-lists.ensures))

-- What handles hold may go from one thread to another.
use denote.Param.Send.{IsSend, IsSync, sendable, view_send, view_sync}
use denote.Param.SendFields.{declared_send, declared_sync, variants_send}
use Rattle.std.proofs.Crossing.{crosses}
use Rattle.bytes.proofs.shared.Bytes.TheSendSync as bytes
use Rattle.gql_engine.specs.contracts.service.Service as service
use Rattle.gql_engine.specs.contracts.service.Service.TheInside as service_parts
use Rattle.gql_rules_nodes.proofs.possible_types.PossibleTypes.TheSendSync as possible
use Rattle.gql_schema_types.proofs.valid.Valid.TheSendSync as valid
use Rattle.gql_c.proofs.Documents.{document_send, document_sync}
use Rattle.gql_c.proofs.Schemas.{schema_send, schema_sync}
use Rattle.jb_map.proofs.pairs.Pairs.TheSendSync as pairs
use Rattle.jb_text.proofs.byte_string.ByteString.TheSendSync as byte_string
use Rattle.jb_text.proofs.listed.Listed.TheSendSync as listed
use Rattle.jb_text.proofs.number.Number.TheSendSync as number
use Rattle.jb_text.proofs.text.Text.TheSendSync as text
use Rattle.jb_tree.proofs.value.Value.TheLaws.TheKnot as value
use Rattle.jb_tree.specs.contracts.value.Value as json
use Rattle.gql_c.specs.contracts.held.Held as held
use Rattle.gql_c.specs.contracts.query.Query as query
use Rattle.gql_c.specs.contracts.query.Query.TheInside as query_parts

service_send : IsSend service.the_row
service_send = view_send service_parts.the_row _ _ _ _ (declared_send service_parts.the_type (search (sendable, crosses, schema_send, valid.the_send) depth 60 fits 20000, (possible.the_send, tt)))

service_sync : IsSync service.the_row
service_sync = view_sync service_parts.the_row _ _ _ _ (declared_sync service_parts.the_type (search (sendable, crosses, schema_sync, valid.the_sync) depth 60 fits 20000, (possible.the_sync, tt)))

query_send : IsSend query.the_row
query_send = view_send query_parts.the_row _ _ _ _ (declared_send query_parts.the_type (search (sendable, crosses, service_send, service_sync) depth 60 fits 20000, (text.the_send, (search (sendable, crosses, document_send, valid.the_send) depth 60 fits 20000, tt))))

query_sync : IsSync query.the_row
query_sync = view_sync query_parts.the_row _ _ _ _ (declared_sync query_parts.the_type (search (sendable, crosses, service_send, service_sync) depth 60 fits 20000, (text.the_sync, (search (sendable, crosses, document_sync, valid.the_sync) depth 60 fits 20000, tt))))

json_send : IsSend json.the_row
json_send = search (sendable, crosses, value.crosses, byte_string.the_send, listed.the_send, number.the_send, pairs.the_send) depth 60 fits 20000

json_sync : IsSync json.the_row
json_sync = search (sendable, crosses, value.crosses, byte_string.the_sync, listed.the_sync, number.the_sync, pairs.the_sync) depth 60 fits 20000

pub held_send : IsSend held.the_row
held_send = variants_send held.enum (
  (search (sendable, crosses, service_send, service_sync) depth 60 fits 20000, tt),
  (
    (search (sendable, crosses, query_send, query_sync) depth 60 fits 20000, tt),
    (
      (search (sendable, crosses, json_send, json_sync, pairs.the_send, pairs.the_sync) depth 60 fits 20000, tt),
      ((search (sendable, crosses, bytes.the_send) depth 60 fits 20000, tt), ((search (sendable, crosses, json_send, pairs.the_send) depth 60 fits 20000, tt), tt)),
    ),
  ),
)

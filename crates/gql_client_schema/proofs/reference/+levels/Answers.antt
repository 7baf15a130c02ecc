use Rattle.std.proofs.Common.{◌-◌, codes, arith}
use Rattle.std.specs.Map.{lookup}
use Rattle.std.specs.Str.{bytes_eq}
use Rattle.gql_client_schema.specs.Reading.{both, gives}
use Rattle.gql_client_schema.specs.References.{head_of, inner, joined_head}
use Rattle.gql_client_schema.specs.bridge.References.{inside}
use Rattle.gql_client_schema.proofs.Levels.{inner_more}
use Rattle.gql_client_schema.proofs.Readings.{goes, mapped_stops}
use Rattle.gql_client_schema.proofs.reference.+levels.Goals as goal

pub linked-returns-in-Ok : goal.linked-returns-in-Ok
linked-returns-in-Ok t c =
    let ms = c.args.members.now in
    goes (λ parts. gives (joined_head parts)) (both (head_of ms) (inner c.args.left ms)) c.in-Ok.parts c.joined_head.result
    (c.in-Ok.ensures (head_of ms) (inner c.args.left ms) c.head_of-head.ensures c.inner.ensures) c.joined_head.ensures

pub linked-returns-in-Err : goal.linked-returns-in-Err
linked-returns-in-Err t c =
    let ms = c.args.members.now in
    mapped_stops joined_head (both (head_of ms) (inner c.args.left ms)) c.in-Err.unread
    (c.in-Err.ensures (head_of ms) (inner c.args.left ms) c.head_of-head.ensures c.inner.ensures)

pub inner-returns : goal.inner-returns
inner-returns t c =
    inner_more c.args.left c.args.members.now c.in_member.result (omega arith)
    (c.in_member.ensures (inside (c.args.left - 1) (lookup (bytes_eq (codes "ofType")) c.args.members.now)) (rw c.get.ensures at c.inside.ensures))

use Rattle.std.proofs.Common.{Some, Ok, Err, ◌∙◌, sym}
use Rattle.gql_client_schema.proofs.Readings.{mapped_gives, mapped_stops, not_null}
use Rattle.gql_client_schema.proofs.reading.OptionRead.read.Goals as goal

pub returns-in-Ok : goal.returns-in-Ok
returns-in-Ok g c =
    let rule = g.T.Read.reading in
    let value = c.args.value.now in
    not_null rule value (Ok (Some c.in-Ok.found)) (sym c.is_null.ensures ∙ c.if-is_null.false) (mapped_gives Some (rule value) c.in-Ok.found c.in-Ok.ensures)

pub returns-in-Err : goal.returns-in-Err
returns-in-Err g c =
    let rule = g.T.Read.reading in
    let value = c.args.value.now in
    not_null rule value (Err c.in-Err.unread) (sym c.is_null.ensures ∙ c.if-is_null.false) (mapped_stops Some (rule value) c.in-Err.unread c.in-Err.ensures)

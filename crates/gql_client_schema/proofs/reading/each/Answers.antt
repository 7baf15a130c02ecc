use Rattle.std.proofs.Common.{List, [], ◌+◌, drop, sym, subst}
use Rattle.gql_client_schema.specs.Reading.{read_items}
use Rattle.gql_client_schema.proofs.Readings.{Resumes, item_more, item_stops}
use Rattle.gql_client_schema.proofs.reading.each.Goals as goal

pub returns-in-Err : goal.returns-in-Err
returns-in-Err g c =
    let rule = g.T.Read.reading in
    let values = c.args.values.now in
    item_stops rule values c.loop-index.index c.index-values-index.result c.loop-index.items c.in-Err.unread (read_items rule 0 [] values)
    c.loop-index-test.true c.index-values-index.is (c.in-Err.ensures (rule c.index-values-index.result) c.read.ensures) c.loop-index.invariant

pub loop-index-preserved : goal.loop-index-preserved
loop-index-preserved g c =
    let rule = g.T.Read.reading in
    let values = c.args.values.now in
    rw c.in_ok-push-in-Ok.ensures.pushed
    (item_more rule values c.loop-index.index c.index-values-index.result c.loop-index.items c.in-Ok.found (read_items rule 0 [] values)
    c.loop-index-test.true c.index-values-index.is (c.in-Ok.ensures (rule c.index-values-index.result) c.read.ensures) c.loop-index.invariant)

use Rattle.std.proofs.Common.{◌≡◌, ◌++◌, ◌∷◌, ◌+◌, [], take, sym, ap, ◌∙◌, subst}
use Rattle.std.proofs.lemmas.List.{take_more, take_all}
use Rattle.std.proofs.lemmas.Result.{on_ok_weaker}
use Rattle.gql_rules.proofs.Told.{AreSoFar, none-yet, one-more, all-told}
use Rattle.gql_rules.proofs.variable_faults.list_variable_faults.Goals as goal
use Rattle.gql_rules.specs.bridge.Operations.{fresh_rows, rows_told}
use Rattle.gql_rules.specs.bridge.Views.{rows_of}

pub loop-operation-init : goal.loop-operation-init
loop-operation-init c =
    let schema = c.args.schema.now in
    none-yet schema c.args.document.now.fragments c.args.faults.now (rows_of c.in_ok-rows.rows) (c.in_ok-rows.ensures ∙ ap (fresh_rows schema) c.as_slice.ensures.entries)

pub loop-operation-preserved : goal.loop-operation-preserved
loop-operation-preserved c =
    let schema = c.args.schema.now in
    let fragments = c.args.document.now.fragments in
    let items = c.as_slice-operation-items.result.now in
    let i = c.loop-operation.operation-index in
    let item = c.operation-item.result in
    let old = c.args.faults.now in
    let judged = rows_of c.in_ok-rows-2.rows in
    let new = c.judge_operation.new.faults in
    let more : take (i + 1) items ≡ take i items ++ item ∷ [] =
    take_more items i item c.loop-operation-test.true ∙ ap (λ y. take i items ++ y ∷ []) (sym c.operation-item.is) in
    subst (λ operations. AreSoFar schema fragments operations old judged new) (sym more)
    (one-more schema fragments (take i items) item old (rows_of c.loop-operation.rows) judged c.loop-operation.faults new c.loop-operation.invariant c.in_ok-rows-2.ensures)

pub returns : goal.returns
returns c =
    let schema = c.args.schema.now in
    let document = c.args.document.now in
    let items = c.as_slice-operation-items.result.now in
    let old = c.args.faults.now in
    let mid = c.loop-operation.faults in
    let rows = rows_of c.loop-operation.rows in
    let whole = take_all c.loop-operation.operation-index items c.loop-operation-test.false ∙ c.as_slice-operation-items.ensures in
    let all = subst (λ operations. AreSoFar schema document.fragments operations old rows mid) whole c.loop-operation.invariant in
    on_ok_weaker c.list_rows.result
    (λ is. all-told schema document old rows mid c.list_rows.new.faults all (is ∙ ap (λ r. mid ++ rows_told (rows_of r)) c.as_slice-2.ensures))
    c.list_rows.ensures

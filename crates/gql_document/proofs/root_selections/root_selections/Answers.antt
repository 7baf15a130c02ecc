use Rattle.gql_document.proofs.RootWay.{begins, goes_on, weighs_less}
use Rattle.gql_document.proofs.root_selections.root_selections.Goals as goal

pub loop-list-init : goal.loop-list-init
loop-list-init c =
    begins c.args.schema.now c.args.fragments.now c.args.selections.now c.new-entered.result c.new-pending.result c.push.new.self c.new-roots.result c.as_slice.result
    c.new-entered.ensures c.new-pending.ensures c.in_ok-push.ensures.pushed c.new-roots.ensures c.as_slice.ensures

pub loop-list-smaller : goal.loop-list-smaller
loop-list-smaller c =
    weighs_less c.args.schema.now c.args.fragments.now c.args.selections.now c.loop-list.entered c.loop-list.pending c.pop.new.self c.loop-list.roots c.in-Some.list _
    c.in-Some.ensures.last c.in_ok-take_first.ensures

pub loop-list-preserved : goal.loop-list-preserved
loop-list-preserved c =
    goes_on c.args.schema.now c.args.fragments.now c.args.selections.now c.loop-list.entered c.loop-list.pending c.pop.new.self c.loop-list.roots c.in-Some.list _
    c.in-Some.ensures.last c.in_ok-take_first.ensures c.loop-list.invariant

use Rattle.std.proofs.Common.{subst}
use Rattle.gql_document_types.specs.bridge.RootWalk.{walk_of}
use Rattle.gql_document_types.proofs.RootWalk.{goes_on, weighs_less, way_ends, IsOnTheWay}
use Rattle.gql_document_types.proofs.root_fields.fields_at_root.Goals as goal

pub loop-list-smaller : goal.loop-list-smaller
loop-list-smaller c =
    weighs_less c.args.fragments.now c.loop-list.entered c.loop-list.pending c.pop.new.self c.loop-list.fields c.in-Some.list _ c.in-Some.ensures.last c.in_ok-take_first.ensures

pub loop-list-preserved : goal.loop-list-preserved
loop-list-preserved c =
    goes_on c.args.fragments.now c.args.selections.now c.loop-list.entered c.loop-list.pending c.pop.new.self c.loop-list.fields c.in-Some.list _ c.in-Some.ensures.last c.in_ok-take_first.ensures
    c.loop-list.invariant

pub returns : goal.returns
returns c =
    way_ends c.args.fragments.now c.args.selections.now c.loop-list.entered _
    (subst (λ pending. IsOnTheWay c.args.fragments.now c.args.selections.now (walk_of c.loop-list.entered pending c.loop-list.fields)) c.in_default.ensures.empty c.loop-list.invariant)

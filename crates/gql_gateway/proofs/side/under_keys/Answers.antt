use Rattle.gql_gateway.proofs.Filing.{filed-next, filed-end}
use Rattle.gql_gateway.proofs.side.under_keys.Goals as goal

pub loop-error-preserved : goal.loop-error-preserved
loop-error-preserved c =
    filed-next c.loop-error.under c.file.new.under c.in-Some.error c.loop-error.error-iterator c.next.new.self c.args.errors c.in-Some.ensures.steps
    c.in_ok-file.ensures c.loop-error.invariant

pub returns : goal.returns
returns c = filed-end c.loop-error.under c.loop-error.error-iterator c.args.errors c.in-None.ensures.steps.0 c.loop-error.invariant

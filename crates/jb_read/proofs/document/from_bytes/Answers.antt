use Rattle.jb_read.proofs.Answered.{front_spelled, front_only, front_faults, front_refused}
use Rattle.jb_read.proofs.document.from_bytes.Goals as goal

pub returns-clause-spelled : goal.returns-clause-spelled
returns-clause-spelled c = front_spelled c.args.bytes.now c.placed_front.result c.placed_front.ensures

pub returns-clause-only : goal.returns-clause-only
returns-clause-only c = front_only c.args.bytes.now c.placed_front.result c.placed_front.ensures

pub returns-clause-broken : goal.returns-clause-broken
returns-clause-broken c = front_faults c.args.bytes.now c.placed_front.result c.placed_front.ensures

pub returns-clause-refused : goal.returns-clause-refused
returns-clause-refused c = front_refused c.args.bytes.now c.placed_front.result c.placed_front.ensures

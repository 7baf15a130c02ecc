use Rattle.gql_engine.specs.bridge.Phases.{ready_as}
use Rattle.gql_cost.proofs.CostRefusals.{memory-refused, memory-unexecuted, refused-cost, unexecuted-cost}
use Rattle.gql_cost.proofs.responding.respond_ready.Goals as goal

pub returns-in-Ok-clause-refused : goal.returns-in-Ok-clause-refused
returns-in-Ok-clause-refused g c = λ wanted before after is. memory-refused c.args.limit.now wanted c.execute_within.result c.execute_within.ensures.refused

pub returns-in-Ok-clause-unexecuted : goal.returns-in-Ok-clause-unexecuted
returns-in-Ok-clause-unexecuted g c = λ wanted before is. memory-unexecuted c.args.limit.now wanted before c.execute_within.new.steps c.execute_within.result c.execute_within.ensures.refused

pub returns-in-Err-clause-refused : goal.returns-in-Err-clause-refused
returns-in-Err-clause-refused g c = λ wanted before after is. refused-cost c.args.limit.now wanted (ready_as is) c.in-Err.refusal c.in-Err.ensures.refused

pub returns-in-Err-clause-unexecuted : goal.returns-in-Err-clause-unexecuted
returns-in-Err-clause-unexecuted g c = λ wanted before is. unexecuted-cost c.args.limit.now wanted (ready_as is) before c.args.steps.now c.cost.new.steps is.depth c.cost.ensures.looks c.in-Err.refusal

-- What the prover leaves open of `ReadyOperation::execute`: the response is that to whatever the operation is ready for.
use Rattle.gql_engine.proofs.Responses.{answered_ready, responds}
use Rattle.gql_engine.proofs.Runs.{selecting}
use Rattle.gql_engine.proofs.ready.ReadyOperation.execute.Goals as goal

pub returns-clause-answered : goal.returns-clause-answered
returns-clause-answered g c = λ wanted before after is.
    answered_ready g.O.ObjectValue.type_of g.O.ObjectValue.resolves (g.O.ObjectValue.seen c.args.root.now) wanted before after c.args.steps.now c.execute_with.new.steps
    c.args.self.now is c.execute_with.result c.execute_with.ensures

pub returns-clause-responds : goal.returns-clause-responds
returns-clause-responds g c = λ wanted before is.
    responds g.O.ObjectValue.type_of g.O.ObjectValue.resolves (g.O.ObjectValue.seen c.args.root.now) wanted before c.args.steps.now c.execute_with.new.steps
    c.args.self.now is
    (selecting c.args.self.now.document.now wanted.operation_name c.args.self.now.operation.now
    (c.operations_select_something.ensures c.args.self.now.schema.now wanted.query c.args.self.now.document.now is.meant.is_document) is.is_chosen)
    c.execute_with.result c.execute_with.ensures

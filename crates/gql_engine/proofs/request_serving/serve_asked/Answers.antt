-- The run for the command that was asked for.
use Rattle.gql_engine.proofs.request_serving.serve_asked.Goals as goal

pub returns-in-Some-clause-served : goal.returns-in-Some-clause-served
returns-in-Some-clause-served g c = rw c.in-Some.is (c.serve_command.ensures.served c.args.usage.now)

use Rattle.gql_engine.specs.Service.{asked_of}
use Rattle.gql_rounds.proofs.Causes.{no-memory}
use Rattle.gql_rounds.proofs.steps.step_alone.Goals as goal

pub returns : goal.returns
returns g c = no-memory c.args.answers.now (asked_of c.args.service.now c.args.question.now)

use Rattle.gql_engine.specs.Service.{asked_of}
use Rattle.jb_io.specs.Stream.{HasFailed}
use Rattle.gql_gateway.proofs.Exact.{EngineLaws, gives-joined}
use Rattle.gql_gateway.proofs.answering.answer_alone.Goals as goal

pub returns-clause-answer : goal.returns-clause-answer
returns-clause-answer g c =
    let laws : EngineLaws =
    record {
      calls = c.causes_exclude_one_another.ensures.calls;
      valid = c.causes_exclude_one_another.ensures.valid;
      wanted = c.causes_exclude_one_another.ensures.wanted;
      ready = c.causes_exclude_one_another.ensures.ready;
      document = c.readiness_is_one.ensures.document;
      operation = c.readiness_is_one.ensures.operation;
      members = c.readiness_is_one.ensures.members;
    } in
    gives-joined laws (g.R.Remote.tells c.args.remote.now) (HasFailed (g.R.Remote.faults c.args.remote.now) (g.R.Remote.faults c.answer_question.new.remote))
    (asked_of c.args.call.now.schema.now c.args.call.now.question) c.answer_question.result c.answer_question.ensures.answered c.answer_question.ensures.refused

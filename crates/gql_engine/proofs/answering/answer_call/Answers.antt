-- Where a cause holds its refusal comes, and what is valid has no cause of one.
use Rattle.gql_engine.specs.bridge.AnswerError.{call_over}
use Rattle.gql_engine.proofs.Responses.{answers_by, exact_by, valid_by}
use Rattle.gql_engine.proofs.answering.answer_call.Goals as goal

pub returns-clause-answer : goal.returns-clause-answer
returns-clause-answer g c = λ schema query made.
    let call = call_over schema query c.args.call.now in
    let result = c.answer_or_refuse.result in
    let answered = answers_by g.O.ObjectValue.type_of g.O.ObjectValue.resolves (g.O.ObjectValue.seen c.args.root.now) call _ _ result (c.answer_or_refuse.ensures.answered schema query made) in
    let refused = c.answer_or_refuse.ensures.refused schema query made in
    let laws = c.causes_exclude_one_another.ensures in
    record {
      answered = answered;
      refused = refused;
      exact = exact_by g.O.ObjectValue.type_of g.O.ObjectValue.resolves (g.O.ObjectValue.seen c.args.root.now) call (λ e valid h. laws.valid call e valid h)
          (λ e f not h k. laws.calls call e f not h k) result answered refused;
      valid = valid_by call (λ e valid h. laws.valid call e valid h) result refused;
    }

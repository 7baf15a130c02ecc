use Rattle.std.proofs.Common.{◌≡◌, ap, refl}
use Rattle.gql_engine.specs.AnswerError.{wanted_with}
use Rattle.gql_engine.specs.AtHand.{TwoTexts}
use Rattle.gql_engine.specs.Service.{asked_of}
use Rattle.gql_cost.proofs.Calls.{result-answered, result-refused, result-unexecuted}
use Rattle.gql_cost.proofs.answering.answer_question.Goals as goal

pub returns-in-Err-clause-refused : goal.returns-in-Err-clause-refused
returns-in-Err-clause-refused g c = c.causes_exclude_one_another.ensures.unread (asked_of c.args.service.now c.args.question.now) c.in-Err.refusal c.in-Err.ensures.refused

pub answer_asked-requires : goal.answer_asked-requires
answer_asked-requires g c = ap (λ (two : TwoTexts). two.query) c.in-Ok-check_query.ensures.made.is

pub returns-in-Ok-check_query-clause-answered : goal.returns-in-Ok-check_query-clause-answered
returns-in-Ok-check_query-clause-answered g c =
    let schema : c.in-Ok-check_query.prepared.schema ≡ c.args.service.now = ap (λ (two : TwoTexts). two.schema) c.in-Ok-check_query.ensures.made.is in
    result-answered g.O.ObjectValue.type_of g.O.ObjectValue.resolves (g.O.ObjectValue.seen c.args.root.now) c.args.limit.now (asked_of c.args.service.now c.args.question.now) c.in-Ok.variables c.in-Ok.ensures.read
    (λ refusal cause. c.causes_exclude_one_another.ensures.lifted (asked_of c.args.service.now c.args.question.now) c.in-Ok.variables refusal c.in-Ok.ensures.read cause)
    c.answer_asked.result (rw schema at c.answer_asked.ensures.answered)

pub returns-in-Ok-check_query-clause-refused : goal.returns-in-Ok-check_query-clause-refused
returns-in-Ok-check_query-clause-refused g c =
    let schema : c.in-Ok-check_query.prepared.schema ≡ c.args.service.now = ap (λ (two : TwoTexts). two.schema) c.in-Ok-check_query.ensures.made.is in
    result-refused g.O.ObjectValue.type_of g.O.ObjectValue.resolves (g.O.ObjectValue.seen c.args.root.now) c.args.limit.now (asked_of c.args.service.now c.args.question.now) c.in-Ok.variables c.in-Ok.ensures.read
    (λ refusal cause. c.causes_exclude_one_another.ensures.lifted (asked_of c.args.service.now c.args.question.now) c.in-Ok.variables refusal c.in-Ok.ensures.read cause)
    c.answer_asked.result (rw schema at c.answer_asked.ensures.refused)

pub returns-clause-refused : goal.returns-clause-refused
returns-clause-refused g c =
    c.causes_exclude_one_another.ensures.lifted (asked_of c.args.service.now c.args.question.now) c.in-Ok.variables c.in-Err-check_query.refusal c.in-Ok.ensures.read
    (c.in-Err-check_query.ensures.refused (wanted_with (asked_of c.args.service.now c.args.question.now) c.in-Ok.variables) refl refl)

pub returns-in-Ok-check_query-clause-unexecuted : goal.returns-in-Ok-check_query-clause-unexecuted
returns-in-Ok-check_query-clause-unexecuted g c =
    let schema : c.in-Ok-check_query.prepared.schema ≡ c.args.service.now = ap (λ (two : TwoTexts). two.schema) c.in-Ok-check_query.ensures.made.is in
    result-unexecuted (asked_of c.args.service.now c.args.question.now) c.in-Ok.variables c.in-Ok.ensures.read c.args.steps.now c.answer_asked.new.steps
    c.answer_asked.result (rw schema at c.answer_asked.ensures.unexecuted)

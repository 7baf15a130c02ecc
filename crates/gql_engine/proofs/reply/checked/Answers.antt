use Rattle.gql_engine.specs.Request.{asked_in}
use Rattle.gql_engine.proofs.Replies.{check_refused, is_refused}
use Rattle.gql_engine.proofs.reply.checked.Goals as goal

pub returns-in-None-clause-caused : goal.returns-in-None-clause-caused
returns-in-None-clause-caused c = λ must.
    absurd (c.answers_and_refusals_exclude_one_another.ensures.faulty c.args.request.now.schema.now c.args.request.now.query.now must.0
    (rw c.in-None.is at c.in_ok-faults_of_texts.ensures) must.1)

pub returns-in-Some-clause-is : goal.returns-in-Some-clause-is
returns-in-Some-clause-is c = λ count.
    check_refused (asked_in c.args.request.now) count count c.in-Some.list (rw c.in-Some.is at c.in_ok-faults_of_texts.ensures) c.refused_reports.result c.refused_reports.ensures

pub returns-in-Some-clause-done : goal.returns-in-Some-clause-done
returns-in-Some-clause-done c = λ must.
    absurd (c.answers_and_refusals_exclude_one_another.ensures.faulty c.args.request.now.schema.now c.args.request.now.query.now c.in-Some.list must
    (rw c.in-Some.is at c.in_ok-faults_of_texts.ensures))

pub returns-in-Some-clause-caused : goal.returns-in-Some-clause-caused
returns-in-Some-clause-caused c = λ must. is_refused _ c.refused_reports.result c.refused_reports.ensures

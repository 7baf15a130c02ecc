use Rattle.gql_engine.specs.Reports.{reports_of}
use Rattle.gql_engine.specs.declared.answer_error.AnswerError.TheVariants.{Document}
use Rattle.gql_c.specs.Checks.{of_query}
use Rattle.gql_c.proofs.Refusals.{reports_check}
use Rattle.gql_c.proofs.check.check_query.Goals as goal

pub returns-in-Err-Fault : goal.returns-in-Err-Fault
returns-in-Err-Fault c = reports_check c.args.service.now c.args.query.now (reports_of c.in-Err-Fault.list) c.reports.result c.refused.result
    (λ text is. of_query (Document c.in-Err-Fault.list) (rw c.in-Err-Fault.field-0-is at c.in-Err-Fault.ensures) is) c.reports.ensures c.refused.ensures

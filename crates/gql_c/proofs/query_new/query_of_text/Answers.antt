use Rattle.std.specs.Arc.{arc_value}
use Rattle.gql_engine.specs.declared.answer_error.AnswerError.TheVariants.{Document}
use Rattle.gql_c.specs.Queries.{HoldsQuery, IsNoQuery}
use Rattle.gql_c.proofs.Refusals.{refusal_reads}
use Rattle.gql_c.proofs.query_new.query_of_text.Goals as goal

pub returns-in-Err-Fault : goal.returns-in-Err-Fault
returns-in-Err-Fault c = refusal_reads (HoldsQuery (arc_value c.args.service.now) c.args.text.now) (IsNoQuery (arc_value c.args.service.now) c.args.text.now) (Document c.in-Err-Fault.list) c.refuse.result
    (rw c.in-Err-Fault.field-0-is at c.in-Err-Fault.ensures) c.refuse.ensures

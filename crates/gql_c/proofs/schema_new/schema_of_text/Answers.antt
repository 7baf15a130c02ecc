use Rattle.gql_engine.specs.declared.answer_error.AnswerError.TheVariants.{Schema}
use Rattle.gql_c.specs.Schemas.{HoldsSchema, IsNoSchema}
use Rattle.gql_c.proofs.Refusals.{refusal_reads}
use Rattle.gql_c.proofs.schema_new.schema_of_text.Goals as goal

pub returns-in-Err-Fault : goal.returns-in-Err-Fault
returns-in-Err-Fault c = refusal_reads (HoldsSchema c.args.text.now) (IsNoSchema c.args.text.now) (Schema c.in-Err-Fault.list) c.refuse.result
    (rw c.in-Err-Fault.field-0-is at c.in-Err-Fault.ensures) c.refuse.ensures

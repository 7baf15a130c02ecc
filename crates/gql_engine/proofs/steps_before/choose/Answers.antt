use Rattle.std.proofs.Common.{Err, subst}
use Rattle.gql_document_types.specs.ChosenOperation.{IsChosen, text_of}
use Rattle.gql_document_types.specs.declared.document.ExecutableDocument.{ExecutableDocument}
use Rattle.gql_engine.specs.declared.answer_error.RequestKind.TheVariants.{Operation}
use Rattle.gql_engine.specs.bridge.Responding.{IsOfStep}
use Rattle.gql_engine.specs.Wanted.{wanted_over}
use Rattle.gql_engine.proofs.Responses.{unchosen}
use Rattle.gql_engine.proofs.steps_before.choose.Goals as goal

pub returns-in-Err : goal.returns-in-Err
returns-in-Err c = λ schema query mean.
    unchosen (wanted_over schema query c.args.wanted.now)
    (record { schema = c.args.texts.now.schema.now; document = c.args.texts.now.document.now; are = mean }) c.in-Err.refused c.of_step.result
    (subst (λ (d : ExecutableDocument). IsChosen (text_of c.args.wanted.now.operation_name) d.operations (Err c.in-Err.refused)) c.as_ref-2.ensures c.in-Err.ensures)
    (subst (λ (d : ExecutableDocument). IsOfStep Operation d.sources c.in-Err.refused c.of_step.result) c.as_ref.ensures c.of_step.ensures)

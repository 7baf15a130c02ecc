use Rattle.std.proofs.Common.{subst}
use Rattle.gql_coerce.specs.Variables.{coerced_variables}
use Rattle.gql_document_types.specs.declared.document.ExecutableDocument.{ExecutableDocument}
use Rattle.gql_collect.specs.RequestErrors.{request_error as fault_told}
use Rattle.gql_engine.specs.declared.answer_error.RequestKind.TheVariants.{Variable}
use Rattle.gql_engine.specs.bridge.Responding.{IsOfStep}
use Rattle.gql_engine.specs.Wanted.{wanted_over}
use Rattle.gql_engine.proofs.Responses.{uncoerced_at, was_coerced}
use Rattle.gql_engine.proofs.steps_before.coerce.Goals as goal

pub returns-in-Ok : goal.returns-in-Ok
returns-in-Ok c =
    was_coerced fault_told (coerced_variables c.args.texts.now.schema.now.types c.args.operation.now.variables c.args.wanted.now.variables.now) c.in-Ok.values c.in-Ok.ensures

pub returns-in-Err : goal.returns-in-Err
returns-in-Err c = λ schema query mean.
    uncoerced_at (wanted_over schema query c.args.wanted.now)
    (record { schema = c.args.texts.now.schema.now; document = c.args.texts.now.document.now; are = mean }) c.args.operation.now c.requires.chosen c.requires.shallow
    c.in-Err.refused c.of_step.result c.in-Err.ensures
    (subst (λ (d : ExecutableDocument). IsOfStep Variable d.sources c.in-Err.refused c.of_step.result) c.as_ref.ensures c.of_step.ensures)

use Rattle.std.proofs.Common.{subst}
use Rattle.gql_document_types.specs.declared.document.ExecutableDocument.{ExecutableDocument}
use Rattle.gql_engine.specs.declared.answer_error.RequestKind.TheVariants.{Depth}
use Rattle.gql_engine.specs.bridge.Responding.{IsOfStep}
use Rattle.gql_engine.specs.Wanted.{wanted_over}
use Rattle.gql_engine.proofs.Responses.{too_deep_at}
use Rattle.gql_engine.proofs.steps_before.check_depth_on.Goals as goal

pub check_max_depth-requires : goal.check_max_depth-requires
check_max_depth-requires g c = record {
  acyclic = c.valid_documents_run.ensures.acyclic c.args.texts.now.schema.now c.requires.texts.1 c.args.texts.now.document.now c.requires.texts.2.is_document;
}

pub returns-in-Err-clause-shallow : goal.returns-in-Err-clause-shallow
returns-in-Err-clause-shallow g c = λ schema query mean.
    too_deep_at (wanted_over schema query c.args.wanted.now)
    (record { schema = c.args.texts.now.schema.now; document = c.args.texts.now.document.now; are = mean }) c.args.operation.now c.requires.chosen c.requires.on
    c.in-Err.refused c.of_step.result c.in-Err.ensures.refused
    (subst (λ (d : ExecutableDocument). IsOfStep Depth d.sources c.in-Err.refused c.of_step.result) c.as_ref.ensures c.of_step.ensures)

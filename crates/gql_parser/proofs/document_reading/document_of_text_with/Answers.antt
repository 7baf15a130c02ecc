use Rattle.std.proofs.Common.{subst}
use Rattle.gql_schema_types.specs.declared.schema.Schema.{Schema}
use Rattle.gql_parser.specs.bridge.DocumentAnswers.{IsRuled}
use Rattle.gql_parser.proofs.Phases.{handed_on, document_read}
use Rattle.gql_parser.proofs.Running.{acyclic_answer}
use Rattle.gql_parser.proofs.document_reading.document_of_text_with.Goals as goal

pub returns-in_err-document : goal.returns-in_err-document
returns-in_err-document c =
    let answer = handed_on c.args.schema.now c.args.text.now c.from_residual.result c.in_err-document.field-0.0 c.from_residual.ensures.1 c.in_err-document.ensures in
    record { answer = answer; acyclic = acyclic_answer c.args.schema.now c.args.text.now c.from_residual.result answer }

pub returns : goal.returns
returns c =
    let answer =
    document_read c.args.schema.now c.args.text.now c.in_ok-document.document c.ruled_with.result c.in_ok-document.ensures
    (subst (λ (s : Schema). IsRuled s c.in_ok-document.document c.ruled_with.result) c.as_ref.ensures c.ruled_with.ensures) in
    record { answer = answer; acyclic = acyclic_answer c.args.schema.now c.args.text.now c.ruled_with.result answer }

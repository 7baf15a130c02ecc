use Rattle.std.proofs.Common.{ap}
use Rattle.gql_coerce.specs.bridge.Subject.{subject_text}
use Rattle.gql_coerce.specs.bridge.Missing.{missing_fault}
use Rattle.gql_coerce.specs.Filled.{not_given}
use Rattle.gql_coerce.specs.Translation.{translated}
use Rattle.gql_coerce.proofs.Steps.{answered}
use Rattle.gql_coerce.proofs.input_value.Coercion.not_given.Goals as goal

pub returns-in-Some : goal.returns-in-Some
returns-in-Some c =
    let d = subject_text c.args.subject.now in
    answered _ _ _ (ap (λ default. not_given d c.args.ty.now default (missing_fault c.args.missing.now)) c.in-Some.is)
    (c.given_value.ensures (translated d c.in-Some.literal) c.translate.ensures)

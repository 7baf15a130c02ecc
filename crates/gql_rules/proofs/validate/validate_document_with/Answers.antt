use Rattle.gql_rules.proofs.Listed.{on_refusal, some_listed}
use Rattle.gql_rules.proofs.validate.validate_document_with.Goals as goal
use Rattle.gql_rules.specs.DocumentFaults.{AreDocumentFaults}

pub returns-clause-some : goal.returns-clause-some
returns-clause-some c =
    on_refusal c.take_faults.result
    (some_listed (AreDocumentFaults c.args.schema.now c.args.document.now) c.in_ok-faults.faults c.args.errors.now.items c.take_faults.new.errors.items c.in_ok-faults.ensures)
    c.take_faults.ensures.refused

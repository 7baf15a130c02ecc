use Rattle.std.proofs.Common.{IfOk, subst}
use Rattle.gql_rules.proofs.untyped_faults.distinct_faults.Goals as goal
use Rattle.gql_rules.specs.UntypedFaults.{AreDocumentFaults}

pub returns : goal.returns
returns c =
    subst (λ document. IfOk c.document_faults.result (λ faults. AreDocumentFaults document faults)) c.in_ok-document.ensures c.document_faults.ensures

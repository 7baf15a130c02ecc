use Rattle.std.proofs.Common.{IfOk, subst}
use Rattle.gql_document_types.specs.declared.document.ExecutableDocument.{ExecutableDocument}
use Rattle.gql_exec.specs.bridge.Trails.{spot_of}
use Rattle.gql_response_check.specs.bridge.Finds.{FindsFault}
use Rattle.gql_response_check.specs.bridge.Views.{fault_in}
use Rattle.gql_response_check.proofs.Returning.{done-fault}
use Rattle.gql_response_check.proofs.walk.Checking.check_fault.Goals as goal

pub returns : goal.returns
returns c =
    let spot = spot_of c.args.place.now in
    let fault = fault_in c.args.fault.now in
    let after = c.settle_place.new.findings in
    subst (λ (d : ExecutableDocument). IfOk c.settle_place.result (FindsFault d.sources spot fault c.args.reported.now c.args.findings.now after)) c.document.ensures
    (done-fault c.document.result.now.sources spot fault c.args.reported.now c.args.findings.now c.tell_fault-comes.new.findings after c.tell_fault-comes.result c.settle_place.result
    c.tell_fault-comes.ensures.any c.tell_fault-comes.ensures.told c.settle_place.ensures)

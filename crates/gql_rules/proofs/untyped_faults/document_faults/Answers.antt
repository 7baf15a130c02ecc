use Rattle.std.proofs.Common.{◌++◌, ap, ◌∙◌}
use Rattle.std.proofs.lemmas.Result.{IfOk-weaker}
use Rattle.gql_rules.proofs.UntypedLayers.{of_same}
use Rattle.gql_rules.proofs.untyped_faults.document_faults.Goals as goal
use Rattle.gql_rules.specs.DocumentFaults.{AreFirstOrAll}
use Rattle.gql_rules.specs.UntypedFaults.{AreDocumentFaults, AreOtherFaults}

pub returns : goal.returns
returns c =
    let document = c.args.document.now in
    let spreads = c.in_ok-list_spread_faults.ensures in
    let listed = c.list_spread_faults.new.faults in
    IfOk-weaker c.others_unless_any.result (AreFirstOrAll (AreOtherFaults document) listed) (AreDocumentFaults document)
    (λ faults are. record {
      spreads = spreads.0;
      are_spreads = spreads.1;
      whole = of_same (AreOtherFaults document) spreads.0 listed faults (spreads.2 ∙ ap (λ l. l ++ spreads.0) c.new-spreads.ensures) are;
    })
    c.others_unless_any.ensures

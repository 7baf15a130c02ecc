use Rattle.std.proofs.Common.{◌++◌, ap, ◌∙◌}
use Rattle.gql_rules.proofs.Layers.{of_same}
use Rattle.gql_rules.proofs.document_faults.document_faults.Goals as goal
use Rattle.gql_rules.specs.DocumentFaults.{AreOtherFaults}

pub returns : goal.returns
returns c =
    let spreads = c.in_ok-list_spread_faults.ensures in
    record {
      spreads = spreads.0;
      are_spreads = spreads.1;
      whole =
          of_same (AreOtherFaults c.args.schema.now c.args.document.now) spreads.0 c.list_spread_faults.new.faults c.list_unless_any.new.faults
          (spreads.2 ∙ ap (λ l. l ++ spreads.0) c.new-faults.ensures) c.in_ok-list_unless_any.ensures;
    }

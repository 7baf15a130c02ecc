use Rattle.gql_rules.proofs.UntypedLayers.{all_answered, alone, not_empty}
use Rattle.gql_rules.proofs.untyped_faults.others_unless_any.Goals as goal
use Rattle.gql_rules.specs.UntypedFaults.{AreOtherFaults}

pub returns-then-is_empty : goal.returns-then-is_empty
returns-then-is_empty c =
    all_answered (AreOtherFaults c.args.document.now) c.other_faults.result c.args.firsts (c.is_empty.ensures.0 c.if-is_empty.true) c.other_faults.ensures

pub returns-else-is_empty : goal.returns-else-is_empty
returns-else-is_empty c =
    alone (AreOtherFaults c.args.document.now) c.args.firsts (not_empty c.is_empty.result c.args.firsts c.is_empty.ensures.1 c.if-is_empty.false)

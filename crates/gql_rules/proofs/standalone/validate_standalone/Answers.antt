use Rattle.std.proofs.lemmas.Result.{on_ok_weaker}
use Rattle.gql_rules.proofs.Listed.{on_refusal, some_listed}
use Rattle.gql_rules.proofs.standalone.validate_standalone.Goals as goal
use Rattle.gql_rules.specs.UntypedFaults.{AreUntypedFaults}

pub returns-clause-faults : goal.returns-clause-faults
returns-clause-faults c =
    on_ok_weaker c.take_faults.result (λ sort. (c.in_ok-faults.faults, c.in_ok-faults.ensures, sort)) c.take_faults.ensures.items

pub returns-clause-some : goal.returns-clause-some
returns-clause-some c =
    on_refusal c.take_faults.result
    (some_listed (AreUntypedFaults c.args.document.now.definitions) c.in_ok-faults.faults c.args.errors.now.items c.take_faults.new.errors.items c.in_ok-faults.ensures)
    c.take_faults.ensures.refused

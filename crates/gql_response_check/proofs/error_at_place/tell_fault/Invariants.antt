use Rattle.std.proofs.Common.{◌≡◌, drop}
use Rattle.std.specs.Prelude.{◌||◌}
use Rattle.gql_checker_laws.specs.Findings.{with_all_told}
use Rattle.gql_checker_laws.specs.Told.{any_told, told_numbers}
use Rattle.gql_response_check.specs.bridge.Views.{claims_of, fault_in, findings_of}
use Rattle.gql_response_check.proofs.error_at_place.tell_fault.Given as goal

abbrev pub invariant-loop-claim : goal.invariant-loop-claim
invariant-loop-claim l = record {
  any : (l.any || any_told l.sources (fault_in l.fault) (claims_of (drop l.claim-index l.claims))) ≡ any_told l.sources (fault_in l.fault) (claims_of l.claims);
  told : with_all_told (told_numbers l.sources (fault_in l.fault) (claims_of (drop l.claim-index l.claims))) (findings_of l.findings)
      ≡ with_all_told (told_numbers l.sources (fault_in l.fault) (claims_of l.claims)) (findings_of l.fn.findings);
}

use Rattle.std.proofs.Common.{◌≡◌, drop}
use Rattle.gql_checker_laws.specs.Claims.{first_missing}
use Rattle.gql_checker_laws.specs.Findings.{further}
use Rattle.gql_response_check.proofs.findings.Findings.first_untold.Given as goal

abbrev pub invariant-loop-number : goal.invariant-loop-number
invariant-loop-number l = further l.number (first_missing (drop l.number l.self.told)) ≡ first_missing l.self.told

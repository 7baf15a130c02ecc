use Rattle.std.proofs.Common.{◌≡◌, false, replicate}
use Rattle.gql_response_check.proofs.findings.Findings.new.Given as goal

abbrev pub invariant-loop-number : goal.invariant-loop-number
invariant-loop-number l = l.told ≡ replicate l._number false

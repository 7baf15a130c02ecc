use Rattle.std.proofs.Common.{◌≡◌, [], replicate}
use Rattle.gql_response_check.proofs.shares.no_shares.Given as goal

abbrev pub invariant-loop-number : goal.invariant-loop-number
invariant-loop-number l = l.shares ≡ replicate l._number []

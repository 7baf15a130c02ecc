use Rattle.std.proofs.Common.{◌≡◌, ◌++◌, drop}
use Rattle.gql_checker_laws.specs.Claims.{claims_from}
use Rattle.gql_response_check.specs.bridge.Views.{claims_of}
use Rattle.gql_response_check.proofs.claim.claims.Given as goal

abbrev pub invariant-loop-number : goal.invariant-loop-number
invariant-loop-number l = claims_of l.claims ++ claims_from l.number (drop l.number l.errors) ≡ claims_from 0 l.errors

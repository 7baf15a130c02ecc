use Rattle.std.proofs.Common.{◌≡◌, ℕ, ◌<◌, ◌++◌, drop, length}
use Rattle.gql_response.specs.declared.path.ResponseDataPathSegment.TheVariants.{ListIndex}
use Rattle.gql_checker_laws.specs.Claims.{share}
use Rattle.gql_response_check.specs.bridge.Shares.{share_at}
use Rattle.gql_response_check.specs.bridge.Views.{claims_of}
use Rattle.gql_response_check.proofs.shares.IndexShares.new.Given as goal

abbrev pub invariant-loop-claim : goal.invariant-loop-claim
invariant-loop-claim l = record {
  sized : length l.shares ≡ l.count;
  shared : (index : ℕ) → index < l.count → share_at l.shares index ++ share (ListIndex index) (claims_of (drop l.claim-index l.claims)) ≡ share (ListIndex index) (claims_of l.claims);
}

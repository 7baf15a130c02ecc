use Rattle.std.proofs.Common.{◌≡◌, ◌++◌, drop}
use Rattle.gql_ast_base.specs.Names.{Named}
use Rattle.gql_response.specs.declared.path.ResponseDataPathSegment.TheVariants.{Field}
use Rattle.gql_checker_laws.specs.Claims.{share}
use Rattle.gql_response_check.specs.bridge.Shares.{AreEven, key_share}
use Rattle.gql_response_check.specs.bridge.Views.{claims_of}
use Rattle.gql_response_check.proofs.shares.KeyShares.new.Given as goal

abbrev pub invariant-loop-claim : goal.invariant-loop-claim
invariant-loop-claim l = record {
  even : AreEven l.shares;
  shared : (name : Named) → key_share l.shares name.text ++ share (Field name) (claims_of (drop l.claim-index l.claims)) ≡ share (Field name) (claims_of l.claims);
}

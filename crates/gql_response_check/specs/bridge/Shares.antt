-- Claims that are shared out by their next step, as they are kept.
use Rattle.std.specs.Prelude.{◌≡◌, ◌<◌, ℕ, List, [], length}
use Rattle.gql_ast_base.specs.Names.{Named}
use Rattle.gql_response.specs.declared.path.ResponseDataPathSegment.TheVariants.{Field, ListIndex}
use Rattle.gql_checker_laws.specs.Claims.{Claim, share}
use Rattle.gql_checker_laws.specs.Shares as law
use Rattle.gql_response_check.specs.bridge.Views.{claim_of}
use Rattle.gql_response_check.specs.declared.claim.Claim.{Claim as HeldClaim}
use Rattle.gql_response_check.specs.declared.shares.IndexShares.{IndexShares}
use Rattle.gql_response_check.specs.declared.shares.KeyShares.{KeyShares}
use Rattle.gql_response_check.specs.declared.shares.StepName.{StepName}

abbrev pub step_name : StepName → Named
step_name step = step.name.now

-- the share of a number, or nothing
abbrev pub share_at : List (List HeldClaim) → ℕ → List Claim
share_at = law.share_at claim_of

-- the share of the first name that is the key
abbrev pub key_share : KeyShares → List ℕ → List Claim
key_share it key = law.named_share claim_of step_name it.names it.shares key

-- a claim, where this is its key
abbrev pub if_called : List ℕ → HeldClaim → List ℕ → List Claim
if_called = law.if_called claim_of

-- there is a share for each name, and no claim where there is none
abbrev pub AreEven : KeyShares → Type 0
AreEven it = (length it.names ≡ length it.shares) × (it.none ≡ [])

-- each key has the claims that go on by it
pub record AreKeyShares (it : KeyShares) (claims : List Claim) : Type 0 where
  pub even : AreEven it
  pub shares : (name : Named) → key_share it name.text ≡ share (Field name) claims

-- each index of a list of so many has the claims that go on by it
pub record AreIndexShares (count : ℕ) (claims : List Claim) (it : IndexShares) : Type 0 where
  pub none : it.none ≡ []
  pub shares : (index : ℕ) → index < count → share_at it.shares index ≡ share (ListIndex index) claims

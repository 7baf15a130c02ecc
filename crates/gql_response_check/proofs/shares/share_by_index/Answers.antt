use Rattle.std.proofs.Common.{rules, ◌≡◌, List, ◌∷◌, ◌++◌, ap, ◌∙◌}
use Rattle.std.proofs.lemmas.Result.{on_ok_weaker}
use Rattle.gql_checker_laws.proofs.Sharing.{share-added}
use Rattle.gql_response.specs.declared.path.ResponseDataPathSegment.TheVariants.{ListIndex}
use Rattle.gql_checker_laws.specs.Claims.{Claim}
use Rattle.gql_response_check.specs.bridge.Shares.{share_at}
use Rattle.gql_response_check.specs.bridge.Views.{claim_of}
use Rattle.gql_response_check.specs.declared.claim.Claim.{Claim as HeldClaim}
use Rattle.gql_response_check.proofs.Leaves.{by-index}
use Rattle.gql_response_check.proofs.shares.share_by_index.Goals as goal

pub returns-in-Some-ListIndex-default-clause-shared :
    goal.returns-in-Some-ListIndex-default-clause-shared
returns-in-Some-ListIndex-default-clause-shared c =
    let shares = c.args.shares.now in
    let claim = c.args.claim.now in
    let at = c.in-Some-ListIndex-default.index in
    let rest = c.in-Some-ListIndex-default.rest in
    let next : HeldClaim = record claim { rest = rest } in
    let whole : claim.rest.now ≡ ListIndex at ∷ rest.now = search rules in
    on_ok_weaker c.add.result
    (λ is index within.
    ap (λ (ls : List (List HeldClaim)). share_at ls index) is ∙ share-added claim_of shares at next index within
    ∙ ap (λ (l : List Claim). share_at shares index ++ l) (by-index at index (claim_of claim) rest.now claim.rest.now whole))
    c.add.ensures

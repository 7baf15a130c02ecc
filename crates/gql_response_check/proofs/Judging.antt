-- What a walk from the root finds is the verdict.
use Rattle.std.proofs.Common.{◌≡◌, ℕ, List, [], ◌∷◌, Bool, Option, Some, None, is_some, length, refl, ap, ◌∙◌, subst}
use Rattle.gql_collect.specs.Grouping.{groups_seen}
use Rattle.gql_collect.specs.Groups.{SameGroups, applying}
use Rattle.gql_collect.specs.declared.group.Group.{Group as FieldsOfKey}
use Rattle.gql_document_types.specs.Ranks.{AreRanked}
use Rattle.gql_document_types.specs.declared.selection.Selection.{Selection}
use Rattle.gql_exec.specs.Executing.{Resolving}
use Rattle.gql_exec.specs.bridge.Executing.{request_of}
use Rattle.gql_exec.specs.Group.{Group}
use Rattle.gql_exec.specs.Nesting.{nesting}
use Rattle.gql_exec.specs.Request.{Request}
use Rattle.gql_exec.specs.RequestWorld.{plain_world, setting_on}
use Rattle.gql_exec.specs.declared.executing.Executing.{Executing}
use Rattle.gql_exec.proofs.Nests.{suffices}
use Rattle.gql_exec.proofs.Views.{views}
use Rattle.gql_resolvers.specs.Execute.{Member}
use Rattle.gql_resolvers.specs.Trail.{Trail}
use Rattle.gql_resolvers.specs.World.{World}
use Rattle.gql_response.specs.declared.execution_response.ExecutionResponse.{ExecutionResponse}
use Rattle.gql_schema_types.specs.declared.types.ObjectType.{ObjectType}
use Rattle.gql_checker_laws.specs.Claims.{Claim, claims_from, first_missing}
use Rattle.gql_checker_laws.specs.Walk.{groups_found, is_none, kept_if, of_keys, set_found}
use Rattle.gql_checker_laws.specs.Findings.{none_yet}
use Rattle.gql_checker_laws.specs.Found.{IsFound}
use Rattle.gql_checker_laws.specs.Judgement.{found_in, has_keys, judgement_by}
use Rattle.gql_checker_laws.specs.Reported.{with_keys}
use Rattle.gql_checker_laws.proofs.AlikeFound.{views-keys, views-walk}
use Rattle.gql_checker_laws.proofs.Finding.{found-as}
use Rattle.gql_checker_laws.proofs.Judged.{judged}
use Rattle.gql_checker_laws.proofs.Matching.{keys-given}
use Rattle.gql_response_check.specs.bridge.Finds.{FindsParts}
use Rattle.gql_response_check.specs.Verdict.{IsVerdictOn, verdict_of}
use Rattle.gql_response_check.specs.bridge.Views.{findings_of}
use Rattle.gql_response_check.specs.declared.findings.Findings.{Findings}
use Rattle.gql_response_check.specs.declared.verdict.Verdict.{Verdict}

-- members with the keys of the groups of a plan have those of the sets
pub keys-sets : {X : Type 0} (r : Request X) (U : ObjectType) (groups : List FieldsOfKey) (sets : List (List Selection))
    → SameGroups (groups_seen groups) (applying (setting_on r U) sets) → (o : Option (List Member))
    → with_keys groups o ≡ of_keys (plain_world r) ((plain_world r).groups U sets) o
keys-sets r U groups sets same None = refl
keys-sets r U groups sets same (Some ms) = ap (λ b. kept_if b ms) (keys-given r groups ms ∙ views-keys r U groups sets same ms)

module _ {X : Type 0} (e : Executing) (types : X → List ℕ) (resolves : Resolving X) (rank : ℕ → ℕ) (ranked : AreRanked (request_of e types resolves).fragments rank)
    (U : ObjectType) (x : X) (selections : List Selection) (response : ExecutionResponse) (groups : List FieldsOfKey) (sets : List (List Selection))
    (alone : sets ≡ selections ∷ []) (same : SameGroups (groups_seen groups) (applying (setting_on (request_of e types resolves) U) sets)) where
  abbrev r : Request X
  r = request_of e types resolves

  abbrev w : World X ObjectType Group (List (List Selection))
  w = plain_world r

  abbrev all : List (List Selection)
  all = selections ∷ []

  one : SameGroups (groups_seen groups) (applying (setting_on r U) all)
  one = subst (λ s. SameGroups (groups_seen groups) (applying (setting_on r U) s)) alone same

  pub verdict-found : (outer : Trail) (ms : Option (List Member)) (given : Bool) (claims : List Claim) (before after : Findings) (passes : Bool) (verdict : Verdict)
      → outer ≡ [] → ms ≡ with_keys groups response.root → given ≡ is_some ms → claims ≡ claims_from 0 response.errors
      → findings_of before ≡ none_yet (length response.errors) → FindsParts e types resolves U x outer groups ms claims before after passes
      → verdict ≡ verdict_of (judgement_by (is_none response.root) given passes (first_missing after.told) after.bad)
      → IsVerdictOn r U x selections response verdict
  verdict-found outer ms given claims before after passes verdict at is some claimed empty finds said =
      let depth = nesting r.fragments all in
      let walk = views-walk r U groups all one depth (suffices r rank ranked U all) in
      let keys : ms ≡ of_keys w (w.groups U all) response.root = is ∙ keys-sets r U groups all one response.root in
      let whole = found-as (groups_found w (set_found w walk.depth) U x outer (views groups) ms claims) (found_in r U x selections response) (findings_of before) (findings_of after) passes
      (walk.walks x outer ms claims ∙ ap (λ o. set_found w depth U x o all ms claims) at ∙ ap (λ o. set_found w depth U x [] all o claims) keys
      ∙ ap (λ cs. set_found w depth U x [] all (of_keys w (w.groups U all) response.root) cs) claimed) (finds.finds walk.depth walk.enough) in
      record {
        judgement = judgement_by (is_none response.root) (has_keys r U x selections response) passes (first_missing after.told) after.bad;
        judged = judged r rank ranked U x selections response passes (findings_of after)
            (subst (λ b. IsFound (found_in r U x selections response) b (findings_of after) passes) empty whole);
        is = said ∙ ap (λ b. verdict_of (judgement_by (is_none response.root) b passes (first_missing after.told) after.bad)) (some ∙ ap is_some keys);
      }

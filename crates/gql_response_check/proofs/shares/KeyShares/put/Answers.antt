use Rattle.std.proofs.Common.{rules, ◌≡◌, List, [], ◌∷◌, ◌++◌, length, ap, sym, ◌∙◌}
use Rattle.std.proofs.lemmas.Result.{on_ok_weaker}
use Rattle.gql_schema_types.proofs.Lookups.{missing}
use Rattle.gql_schema_types.specs.Entries.{is_called}
use Rattle.gql_checker_laws.specs.Shares.{named_share}
use Rattle.gql_checker_laws.proofs.Sharing.{added-length, named-added, named-begun}
use Rattle.gql_response_check.specs.bridge.Shares.{step_name}
use Rattle.gql_response_check.specs.bridge.Views.{claim_of}
use Rattle.gql_response_check.specs.declared.claim.Claim.{Claim as HeldClaim}
use Rattle.gql_response_check.specs.declared.shares.StepName.{StepName}
use Rattle.gql_response_check.proofs.shares.KeyShares.put.Goals as goal

pub insert_new-requires : goal.insert_new-requires
insert_new-requires c = missing (is_called step_name c.args.name.now.text) c.args.self.now.names (search rules)

pub returns-in-Some-clause-put : goal.returns-in-Some-clause-put
returns-in-Some-clause-put c =
    on_ok_weaker c.add.result
    (λ is key. ap (λ shares. named_share claim_of step_name c.args.self.now.names shares key) is ∙ named-added claim_of step_name c.args.name.now.text c.args.claim c.args.self.now.names c.args.self.now.shares c.in-Some.number c.requires.0 (search rules) key)
    c.add.ensures

pub returns-in-Some-clause-even : goal.returns-in-Some-clause-even
returns-in-Some-clause-even c =
    on_ok_weaker c.add.result
    (λ is. (c.requires.0 ∙ sym (ap (λ (shares : List (List HeldClaim)). length shares) is ∙ added-length c.args.self.now.shares c.in-Some.number c.args.claim), c.requires.1))
    c.add.ensures

pub returns-in-Ok-clause-put : goal.returns-in-Ok-clause-put
returns-in-Ok-clause-put c = λ key.
    let names = c.args.self.now.names in
    let shares = c.args.self.now.shares in
    let step : StepName = record { name = c.args.name } in
    let share : c.push.new.self ≡ c.args.claim ∷ [] = c.in_ok-push-in-None.ensures.pushed ∙ ap (λ (l : List HeldClaim). l ++ c.args.claim ∷ []) c.new-share.ensures in
    ap (λ (ns : List StepName). named_share claim_of step_name ns c.push-in-None.new.self key) c.in-Ok.ensures.entries
    ∙ ap (λ (ls : List (List HeldClaim)). named_share claim_of step_name (names ++ step ∷ []) ls key) (c.in_ok-push-in-None-2.ensures.pushed ∙ ap (λ (l : List HeldClaim). shares ++ l ∷ []) share)
    ∙ named-begun claim_of step_name step c.args.claim names shares c.requires.0 (search rules) key

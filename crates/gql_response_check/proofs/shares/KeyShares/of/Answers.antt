use Rattle.std.proofs.Common.{rules, ◌≡◌, [], Some, None, ap, sym, ◌∙◌}
use Rattle.std.specs.List.{position}
use Rattle.gql_schema_types.specs.Entries.{is_called}
use Rattle.gql_checker_laws.proofs.Sharing.{named-none, named-share}
use Rattle.gql_response_check.specs.bridge.Shares.{step_name}
use Rattle.gql_response_check.specs.bridge.Views.{claim_of, claims_of}
use Rattle.gql_response_check.proofs.shares.KeyShares.of.Goals as goal

pub returns-in_default : goal.returns-in_default
returns-in_default c =
    let it = c.args.self.now in
    let key = c.args.key.now.text in
    let none : position (is_called step_name key) it.names ≡ None = search rules in
    let empty : c.as_slice.result.now ≡ [] = search rules in
    ap claims_of empty ∙ sym (named-none claim_of step_name key it.names it.shares none)

pub returns : goal.returns
returns c =
    let it = c.args.self.now in
    let key = c.args.key.now.text in
    let found : position (is_called step_name key) it.names ≡ Some c.in-Some.number = search rules in
    c.at.ensures ∙ sym (named-share claim_of step_name key it.names it.shares c.in-Some.number c.requires.0 found)

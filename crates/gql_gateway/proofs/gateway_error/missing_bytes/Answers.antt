use Rattle.std.proofs.Common.{◌≡◌, [], ◌∷◌, ◌++◌, ℕ, List, IfOk, ap, ◌∙◌, subst, codes}
use Rattle.gql_diag.specs.Refusal.{message_error, refusal_value}
use Rattle.gql_gateway.specs.Told.{missing_message}
use Rattle.jb_print.specs.Compact.{compact}
use Rattle.gql_gateway.proofs.gateway_error.missing_bytes.Goals as goal

pub returns : goal.returns
returns c =
    let is : c.as_str.result.now ≡ missing_message c.args.key.now =
    c.as_str.ensures.value
    ∙ (c.in_ok-message.ensures.ok ∙ ap (λ (name : List ℕ). codes "gateway: missing key '" ++ (name ++ codes "'")) c.as_str-key.ensures.text) in
    subst (λ (text : List ℕ). IfOk c.refusal_of_message.result (λ bytes. bytes ≡ compact (refusal_value (message_error text ∷ [])))) is c.refusal_of_message.ensures

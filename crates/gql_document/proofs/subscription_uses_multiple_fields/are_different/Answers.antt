use Rattle.std.proofs.Common.{sym, ap, ◌∙◌}
use Rattle.gql_document.specs.SubscriptionUsesMultipleFields as spec
use Rattle.gql_document.specs.bridge.SubscriptionUsesMultipleFields as spec_bridge
use Rattle.gql_document.proofs.Keys.{any_texts}
use Rattle.gql_document.proofs.subscription_uses_multiple_fields.are_different.Goals as goal

pub returns-in-Some : goal.returns-in-Some
returns-in-Some c =
    c.has_another.ensures ∙ any_texts c.in-Some.first.now.now c.in-Some.others.now ∙ sym (ap (λ keys. spec.are_different (spec_bridge.texts_of keys)) c.in-Some.ensures.cases.0)

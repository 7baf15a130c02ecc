use Rattle.std.proofs.Common.{◌≡◌, ◌++◌, drop}
use Rattle.gql_document.specs.bridge.RootWalk.{selections_of}
use Rattle.gql_document.specs.SubscriptionUsesMultipleFields as spec
use Rattle.gql_document.specs.bridge.SubscriptionUsesMultipleFields as spec_bridge
use Rattle.gql_document.proofs.subscription_uses_multiple_fields.response_keys.Given as goal

-- what is there and what is left make the whole
abbrev pub invariant-loop-root : goal.invariant-loop-root
invariant-loop-root l = spec_bridge.texts_of l.keys ++ spec.response_keys (selections_of (drop l.root-index l.root-items)) ≡ spec.response_keys (selections_of l.root-items)

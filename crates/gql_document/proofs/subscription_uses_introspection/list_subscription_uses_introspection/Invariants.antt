use Rattle.std.proofs.Common.{◌≡◌, ◌++◌, drop}
use Rattle.gql_document.specs.bridge.RootWalk.{selections_of}
use Rattle.gql_document.specs.SubscriptionUsesIntrospection as spec
use Rattle.gql_document.proofs.subscription_uses_introspection.list_subscription_uses_introspection.Given as goal

-- what is there and what is left make the whole
abbrev pub invariant-loop-root : goal.invariant-loop-root
invariant-loop-root l = l.faults ++ spec.subscription_uses_introspection l.operation (selections_of (drop l.root-index l.root-items))
    ≡ l.fn.faults ++ spec.subscription_uses_introspection l.operation (selections_of l.root-items)

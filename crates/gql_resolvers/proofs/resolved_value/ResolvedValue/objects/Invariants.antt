use Rattle.std.proofs.Common.{◌≡◌, ◌++◌, Ok, map}
use Rattle.gql_resolvers.specs.declared.resolved_value.ResolvedValue as value
use Rattle.gql_resolvers.proofs.resolved_value.ResolvedValue.objects.Given as goal

-- the items made so far, and those of the objects that are left
abbrev pub invariant-loop-object : goal.invariant-loop-object
invariant-loop-object g l = l.items ++ map (λ o. Ok (value.Object o)) l.object-iterator ≡ map (λ o. Ok (value.Object o)) l.fn.objects

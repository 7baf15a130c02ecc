use Rattle.std.proofs.Common.{◌≡◌, ◌++◌, drop}
use Rattle.gql_rules.specs.Uses.{directives_uses}
use Rattle.gql_rules.specs.bridge.Views.{uses_of}
use Rattle.gql_rules.proofs.value_uses.add_directives.Given as goal

-- what is there and what is left make the whole
abbrev pub invariant-loop-used : goal.invariant-loop-used
invariant-loop-used l =
    uses_of l.uses ++ directives_uses l.schema (drop l.used-index l.used-items)
    ≡ uses_of l.fn.uses ++ directives_uses l.schema l.used-items

use Rattle.std.proofs.Common.{◌≡◌, ◌++◌, drop}
use Rattle.gql_rules.specs.Uses.{arguments_uses}
use Rattle.gql_rules.specs.bridge.Views.{uses_of}
use Rattle.gql_rules.proofs.value_uses.add_arguments.Given as goal

-- what is there and what is left make the whole
abbrev pub invariant-loop-argument : goal.invariant-loop-argument
invariant-loop-argument l =
    uses_of l.uses ++ arguments_uses l.types l.definitions (drop l.argument-index l.argument-items)
    ≡ uses_of l.fn.uses ++ arguments_uses l.types l.definitions l.argument-items

use Rattle.std.proofs.Common.{◌≡◌, drop}
use Rattle.gql_document.specs.Definitions.{with_definitions}
use Rattle.gql_document.proofs.executable_definitions.ExecutableDefinitions.copy_all.Given as goal

-- what is there and what is left make the whole
abbrev pub invariant-loop-definition : goal.invariant-loop-definition
invariant-loop-definition l = with_definitions l.self (drop l.definition-index l.definition-items) ≡ with_definitions l.fn.self l.definition-items

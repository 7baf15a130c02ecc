use Rattle.std.proofs.Common.{◌≡◌}
use Rattle.gql_schema_build.specs.TypeSystems.{with_definitions}
use Rattle.gql_schema_build.proofs.type_system.TypeSystem.take_all.Given as goal

-- what is taken and what is left make the whole
abbrev pub invariant-loop-definition : goal.invariant-loop-definition
invariant-loop-definition l = with_definitions l.self l.definition-iterator ≡ with_definitions l.fn.self l.fn.definitions

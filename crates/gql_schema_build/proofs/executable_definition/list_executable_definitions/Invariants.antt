use Rattle.std.proofs.Common.{◌≡◌, ◌++◌, drop}
use Rattle.gql_schema_build.specs.ExecutableDefinition.{executable_definitions}
use Rattle.gql_schema_build.proofs.executable_definition.list_executable_definitions.Given as goal

-- what is listed and what is left make the whole
abbrev pub invariant-loop-definition : goal.invariant-loop-definition
invariant-loop-definition l =
    l.faults ++ executable_definitions (drop l.definition-index l.definition-items) ≡ l.fn.faults ++ executable_definitions l.definition-items

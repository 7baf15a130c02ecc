use Rattle.std.proofs.Common.{◌≡◌, ◌++◌, drop}
use Rattle.gql_document.specs.TypeSystemDefinition.{type_system_definitions}
use Rattle.gql_document.proofs.type_system_definition.list_type_system_definitions.Given as goal

-- what is there and what is left make the whole
abbrev pub invariant-loop-definition : goal.invariant-loop-definition
invariant-loop-definition l = l.faults ++ type_system_definitions (drop l.definition-index l.definition-items) ≡ l.fn.faults ++ type_system_definitions l.definition-items

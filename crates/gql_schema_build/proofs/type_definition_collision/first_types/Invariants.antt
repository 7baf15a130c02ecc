use Rattle.std.proofs.Common.{◌≡◌, ◌++◌, List, map}
use Rattle.gql_schema_types.specs.Entries.{joined, repeats}
use Rattle.gql_schema_build.specs.DefinitionNames.{definition_name}
use Rattle.gql_schema_build.specs.Merged as merged
use Rattle.gql_schema_build.specs.TypeDefinitionCollision as spec
use Rattle.gql_schema_build.specs.declared.type_definition.TypeDefinition.{TypeDefinition}
use Rattle.gql_schema_build.proofs.type_definition_collision.first_types.Given as goal

-- what is there and what is left make the whole
abbrev pub invariant-loop-definition : goal.invariant-loop-definition
invariant-loop-definition l = (seen : List TypeDefinition) × (l.types ≡ map merged.named seen)
    × (joined definition_name seen l.definition-iterator ≡ merged.firsts l.fn.definitions)
    × (l.faults ++ map (λ pair. spec.second pair.0 pair.1) (repeats definition_name seen l.definition-iterator) ≡ l.fn.faults ++ spec.type_definition_collisions l.fn.definitions)

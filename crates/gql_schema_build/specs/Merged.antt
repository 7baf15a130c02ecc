-- Definitions of types under their names, and the extensions of them.
use Rattle.std.specs.Prelude.{ℕ, List, [], Option}
use Rattle.std.specs.Map.{lookup}
use Rattle.std.specs.Str.{bytes_eq}
use Rattle.gql_ast_base.specs.Names.{Named}
use Rattle.gql_schema_types.specs.Entries.{joined}
use Rattle.gql_schema_build.specs.DefinitionNames.{definition_name}
use Rattle.gql_schema_build.specs.declared.type_definition.TypeDefinition.{TypeDefinition}

abbrev pub Types : Type 0
Types = List (List ℕ × TypeDefinition)

-- a definition under its name
abbrev pub named : TypeDefinition → List ℕ × TypeDefinition
named d = ((definition_name d).text, d)

-- the definition of a name
abbrev pub defined : Types → Named → Option TypeDefinition
defined types name = lookup (bytes_eq name.text) types

-- of each name the first definition
abbrev pub firsts : List TypeDefinition → List TypeDefinition
firsts ds = joined definition_name [] ds

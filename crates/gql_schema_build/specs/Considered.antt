-- The definitions of types that a schema is built of.
use Rattle.std.specs.Prelude.{Bool, List, [], ◌∷◌, ◌++◌, is_some, if◌then◌else◌}
use Rattle.std.specs.List.{flat_map}
use Rattle.gql_schema_types.specs.Entries.{entry}
use Rattle.gql_schema_build.specs.BuiltInScalarTypeRedefinition.{without_redefinitions}
use Rattle.gql_schema_build.specs.DefinitionNames.{definition_name}
use Rattle.gql_schema_build.specs.declared.type_definition.TypeDefinition.{TypeDefinition}

-- a definition of a name that no built-in type has
abbrev pub new_name : List TypeDefinition → TypeDefinition → List TypeDefinition
new_name built_in d = if is_some (entry definition_name (definition_name d).text built_in) then [] else d ∷ []

-- those of names that no built-in type has
abbrev pub new_names : List TypeDefinition → List TypeDefinition → List TypeDefinition
new_names built_in ds = flat_map (new_name built_in) ds

-- all of them, unless those of built-in types are to be passed over
abbrev pub considered : Bool → List TypeDefinition → List TypeDefinition → List TypeDefinition
considered ignores built_in ds = if ignores then new_names built_in ds else ds

-- the built-in ones, then the others
abbrev pub type_definitions : Bool → List TypeDefinition → List TypeDefinition → List TypeDefinition
type_definitions ignores built_in ds = built_in ++ without_redefinitions built_in (considered ignores built_in ds)

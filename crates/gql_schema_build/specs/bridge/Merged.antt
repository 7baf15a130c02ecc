-- What only private clauses and proofs cite, beside `Merged`.
use Rattle.std.specs.Prelude.{[], ◌∷◌, ◌++◌, is_some, if◌then◌else◌}
use Rattle.std.specs.Option.{option_map_or}
use Rattle.std.specs.Map.{set_value}
use Rattle.std.specs.Str.{bytes_eq}
use Rattle.gql_schema_build.specs.DefinitionNames.{definition_name}
use Rattle.gql_schema_build.specs.Extended.{extended}
use Rattle.gql_schema_build.specs.ExtensionNames.{extension_name}
use Rattle.gql_schema_build.specs.declared.type_definition.TypeDefinition.{TypeDefinition}
use Rattle.gql_schema_build.specs.declared.type_extension.TypeExtension.{TypeExtension}
use Rattle.gql_schema_build.specs.Merged.{Types, named, defined}

-- the definition last, unless there is one of its name
abbrev pub with_type : Types → TypeDefinition → Types
with_type types d = if is_some (defined types (definition_name d)) then types else types ++ named d ∷ []

-- the types, where the one that is extended has what the extension adds
abbrev pub with_extension : Types → TypeExtension → Types
with_extension types e =
    option_map_or (λ d. set_value (bytes_eq (extension_name e).text) types (extended d e)) (defined types (extension_name e)) types

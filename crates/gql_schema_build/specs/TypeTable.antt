-- The types of all definitions and extensions: of each name the first definition, with all that the extensions of its kind add.
use Rattle.std.specs.Prelude.{List, ◌++◌, map, fold, filter}
use Rattle.std.specs.List.{flat_map}
use Rattle.gql_diag_messages.specs.declared.diagnostic_data.DiagnosticData.{DiagnosticData}
use Rattle.gql_schema_types.specs.Entries.{is_called}
use Rattle.gql_schema_types.specs.declared.types.ExtendedType.{ExtendedType}
use Rattle.gql_schema_build.specs.Built.{built, part_faults}
use Rattle.gql_schema_build.specs.DefinitionNames.{definition_name}
use Rattle.gql_schema_build.specs.Extended.{extended}
use Rattle.gql_schema_build.specs.ExtensionNames.{extension_name}
use Rattle.gql_schema_build.specs.Merged.{named, firsts}
use Rattle.gql_schema_build.specs.OrphanTypeExtension.{orphan_type_extension}
use Rattle.gql_schema_build.specs.TypeDefinitionCollision.{type_definition_collisions}
use Rattle.gql_schema_build.specs.TypeExtensionKindMismatch.{type_extension_kind_mismatch}
use Rattle.gql_schema_build.specs.declared.type_definition.TypeDefinition.{TypeDefinition}
use Rattle.gql_schema_build.specs.declared.type_extension.TypeExtension.{TypeExtension}

-- a definition with all that the extensions of its name add, in order
abbrev pub all_extended : List TypeExtension → TypeDefinition → TypeDefinition
all_extended es d = fold extended d (filter (is_called extension_name (definition_name d).text) es)

abbrev pub types : List TypeDefinition → List TypeExtension → List ExtendedType
types ds es = map (λ d. built (all_extended es d)) (firsts ds)

-- the faults of extensions, each looked at by itself
abbrev pub extension_faults : List TypeDefinition → List TypeExtension → List DiagnosticData
extension_faults ds es = flat_map (orphan_type_extension (map named (firsts ds))) es ++ flat_map (type_extension_kind_mismatch (map named (firsts ds))) es

abbrev pub type_faults : List TypeDefinition → List TypeExtension → List DiagnosticData
type_faults ds es =
    type_definition_collisions ds ++ (extension_faults ds es ++ flat_map (λ d. part_faults (all_extended es d)) (firsts ds))

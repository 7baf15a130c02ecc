-- A type that is extended is of the extension's kind: sections 3.5.6, 3.6.3, 3.7.1, 3.8.1, 3.9.1 and 3.10.1 of GraphQL October
-- 2021.
use Rattle.std.specs.Prelude.{List, [], ◌∷◌, None, if◌then◌else◌}
use Rattle.std.specs.Option.{option_map_or}
use Rattle.gql_diag_messages.specs.declared.rule.Rule.TheVariants.{TypeExtensionKindMismatch}
use Rattle.gql_diag_messages.specs.declared.diagnostic_data.DiagnosticData.{DiagnosticData}
use Rattle.gql_schema_build.specs.ExtensionNames.{extension_name}
use Rattle.gql_schema_build.specs.Faults.{name_fault}
use Rattle.gql_schema_build.specs.Kinds.{kind_of_definition, kind_of_extension, same_kind}
use Rattle.gql_schema_build.specs.Merged.{Types, defined}
use Rattle.gql_schema_build.specs.declared.type_definition.TypeDefinition.{TypeDefinition}
use Rattle.gql_schema_build.specs.declared.type_extension.TypeExtension.{TypeExtension}

abbrev pub mismatch : TypeExtension → TypeDefinition → List DiagnosticData
mismatch e d = if same_kind (kind_of_definition d) (kind_of_extension e) then [] else name_fault TypeExtensionKindMismatch (extension_name e) None ∷ []

-- an extension whose name is defined as a type of another kind
abbrev pub type_extension_kind_mismatch : Types → TypeExtension → List DiagnosticData
type_extension_kind_mismatch types e = option_map_or (mismatch e) (defined types (extension_name e)) []

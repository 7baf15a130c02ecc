-- A type that is extended is defined: sections 3.5.6, 3.6.3, 3.7.1, 3.8.1, 3.9.1 and 3.10.1 of GraphQL October 2021.
use Rattle.std.specs.Prelude.{List, [], ◌∷◌, None, is_some, if◌then◌else◌}
use Rattle.gql_diag_messages.specs.declared.rule.Rule.TheVariants.{OrphanTypeExtension}
use Rattle.gql_diag_messages.specs.declared.diagnostic_data.DiagnosticData.{DiagnosticData}
use Rattle.gql_schema_build.specs.ExtensionNames.{extension_name}
use Rattle.gql_schema_build.specs.Faults.{name_fault}
use Rattle.gql_schema_build.specs.Merged.{Types, defined}
use Rattle.gql_schema_build.specs.declared.type_extension.TypeExtension.{TypeExtension}

-- an extension without a definition of its name
abbrev pub orphan_type_extension : Types → TypeExtension → List DiagnosticData
orphan_type_extension types e = if is_some (defined types (extension_name e)) then [] else name_fault OrphanTypeExtension (extension_name e) None ∷ []

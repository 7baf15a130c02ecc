-- What only private clauses and proofs cite, beside `TypeDefinitionCollision`.
use Rattle.std.specs.Prelude.{List, [], ◌∷◌}
use Rattle.std.specs.Option.{option_map_or}
use Rattle.gql_diag_messages.specs.declared.diagnostic_data.DiagnosticData.{DiagnosticData}
use Rattle.gql_schema_build.specs.DefinitionNames.{definition_name}
use Rattle.gql_schema_build.specs.Merged.{Types, defined}
use Rattle.gql_schema_build.specs.declared.type_definition.TypeDefinition.{TypeDefinition}
use Rattle.gql_schema_build.specs.TypeDefinitionCollision.{second}

-- that of one definition more
abbrev pub second_of : Types → TypeDefinition → List DiagnosticData
second_of types d = option_map_or (λ first. second d first ∷ []) (defined types (definition_name d)) []

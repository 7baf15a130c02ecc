-- The text of the built-in definitions, and the scalars among them: section 3.5 of GraphQL October 2021.
use Rattle.std.specs.Prelude.{ℕ, Bool, false, List}
use Rattle.std.specs.Option.{option_map_or}
use Rattle.gql_ast.specs.Documents.{text_of}
use Rattle.gql_schema.specs.BuiltInSchema.{built_in_file, built_in_sources}
use Rattle.gql_schema_build.specs.BuiltInScalarTypeRedefinition.{is_scalar}
use Rattle.gql_schema_build.specs.declared.built_in.BuiltIn.{BuiltIn}
use Rattle.gql_schema_build.specs.DefinitionNames.{definition_name}
use Rattle.gql_schema_types.specs.Entries.{entry}

abbrev pub built_in_text : List ℕ
built_in_text = text_of built_in_file built_in_sources

-- the name is that of a built-in scalar
abbrev pub is_scalar_of : BuiltIn → List ℕ → Bool
is_scalar_of built_in name = option_map_or is_scalar (entry definition_name name built_in.types) false

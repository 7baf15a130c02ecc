-- What only private clauses and proofs cite, beside `Rows`.
use Rattle.std.specs.Prelude.{List, map}
use Rattle.gql_source.specs.declared.file_id.FileId.{FileId}
use Rattle.gql_ast_base.specs.Parts.{Text}
use Rattle.gql_schema_build.specs.declared.type_definition.TypeDefinition.{TypeDefinition}
use Rattle.gql_schema_build.specs.declared.type_definition.TypeDefinition.TheVariants as type
use Rattle.gql_schema_build.specs.declared.built_in.BuiltIn.{BuiltIn}
use Rattle.gql_schema.specs.declared.built_in_row.DefinitionRow.{DefinitionRow}
use Rattle.gql_schema.specs.declared.built_in_row.DefinitionRow.TheVariants as definition
use Rattle.gql_schema.specs.declared.built_in_row.DirectiveRow.{DirectiveRow}
use Rattle.gql_schema.specs.Rows.{object_of, enum_of, scalar_of, directive_of}

module _ (text : Text) (file : FileId) where
  abbrev pub definition_of : DefinitionRow → TypeDefinition
  definition_of (definition.Object row) = type.Object (object_of text file row)
  definition_of (definition.Enum row) = type.Enum (enum_of text file row)
  definition_of (definition.Scalar row) = type.Scalar (scalar_of text file row)

  -- what the rows stand for
  abbrev pub built_in_of : List DirectiveRow → List DefinitionRow → BuiltIn
  built_in_of directives types = record { directives = map (directive_of text file) directives; types = map definition_of types }

-- The definitions that each schema has without saying so: what their text means.
use Rattle.std.specs.Prelude.{◌≡◌, List, [], ◌∷◌}
use Rattle.gql_source.specs.File.{Files}
use Rattle.gql_source.specs.declared.file_id.FileId.{FileId}
use Rattle.gql_ast.specs.declared.definition.Definition.{Definition}
use Rattle.gql_ast_laws.specs.Meant.{IsDocumentOf}
use Rattle.gql_schema_build.specs.TypeSystems.{with_definitions, no_definitions}
use Rattle.gql_schema_build.specs.declared.built_in.BuiltIn.{BuiltIn}
use Rattle.gql_schema.specs.declared.built_in_text.TheConstants.{BUILT_IN_TEXT, BUILT_IN_PATH}

-- the number of the built-in file
abbrev pub built_in_file : FileId
built_in_file = record { number = 1 }

abbrev pub built_in_sources : Files
built_in_sources = (built_in_file, record { path = BUILT_IN_PATH.now; source_text = BUILT_IN_TEXT.now }) ∷ []

-- the directives and the types of the document that the text is
pub record IsBuiltIn (built_in : BuiltIn) : Type 0 where
  pub definitions : List Definition
  pub text : IsDocumentOf BUILT_IN_TEXT.now built_in_file definitions
  pub directives : built_in.directives ≡ (with_definitions no_definitions definitions).directives
  pub types : built_in.types ≡ (with_definitions no_definitions definitions).types

-- The built-in definitions have the names that printing leaves out.
use Rattle.std.proofs.Common.{◌≡◌, ℕ, true, List, None, refl, sym, ap, ◌∙◌, subst}
use Rattle.std.specs.List.{AllByRecursion}
use Rattle.gql_ast.specs.declared.definition.Definition.{Definition}
use Rattle.gql_ast.specs.declared.schema_definition.DirectiveDefinition.{DirectiveDefinition}
use Rattle.gql_ast_laws.specs.Meant.{IsDocumentOf}
use Rattle.gql_client_schema_laws.specs.Parts.{said_definition}
use Rattle.gql_client_schema_laws.specs.Shown.{HasBuiltInNames}
use Rattle.gql_schema.proofs.Known.{SoundLaw, by_rows, is_built_in as rows_are_built_in}
use Rattle.gql_schema.specs.BuiltInSchema.{IsBuiltIn, built_in_file}
use Rattle.gql_schema.specs.Rows as rows
use Rattle.gql_schema.specs.declared.built_in_text.TheConstants.{BUILT_IN_TEXT}
use Rattle.gql_schema_build.specs.DirectiveDefinitionCollision.{directive_name}
use Rattle.gql_schema_build.specs.TypeSystems.{with_definitions, no_definitions}
use Rattle.gql_schema_build.specs.declared.built_in.BuiltIn.{BuiltIn}
use Rattle.gql_schema_build.specs.declared.type_definition.TypeDefinition.{TypeDefinition}
use Rattle.gql_sdl.specs.Schemas.{is_directive_name, is_built_in}
use Rattle.gql_source.specs.declared.file_id.FileId.{FileId}

abbrev pub OneDocument : Type 0
OneDocument = (text : List ℕ) (file : FileId) (one other : List Definition) → IsDocumentOf text file one → IsDocumentOf text file other → one ≡ other

abbrev DirectiveNames : List DirectiveDefinition → Type 0
DirectiveNames ds = AllByRecursion (λ d. is_directive_name (directive_name d).text ≡ true) ds

abbrev TypeNames : List TypeDefinition → Type 0
TypeNames ds = AllByRecursion (λ d. is_built_in (said_definition None d) ≡ true) ds

row_directives : DirectiveNames by_rows.directives
unfolding rows.arguments_at rows.fields_at rows.values_at rows.locations_at rows.argument_of rows.field_of rows.enum_value_of rows.object_of rows.enum_of rows.scalar_of rows.directive_of
row_directives = (refl, (refl, (refl, (refl, (refl, tt)))))

row_types : TypeNames by_rows.types
unfolding rows.arguments_at rows.fields_at rows.values_at rows.locations_at rows.argument_of rows.field_of rows.enum_value_of rows.object_of rows.enum_of rows.scalar_of rows.directive_of
row_types = (refl, (refl, (refl, (refl, (refl, (refl, (refl, (refl, (refl, (refl, (refl, (refl, (refl, tt)))))))))))))

module _ (sound : SoundLaw) (once : OneDocument) (built_in : BuiltIn) (is : IsBuiltIn built_in) where
  known : IsBuiltIn by_rows
  known = rows_are_built_in sound

  same : is.definitions ≡ known.definitions
  same = once BUILT_IN_TEXT.now built_in_file is.definitions known.definitions is.text known.text

  -- what is built in is what the rows stand for
  pub same_directives : by_rows.directives ≡ built_in.directives
  same_directives = known.directives ∙ ap (λ ds. (with_definitions no_definitions ds).directives) (sym same) ∙ sym is.directives

  pub same_types : by_rows.types ≡ built_in.types
  same_types = known.types ∙ ap (λ ds. (with_definitions no_definitions ds).types) (sym same) ∙ sym is.types

pub have_names : SoundLaw → OneDocument → (built_in : BuiltIn) → IsBuiltIn built_in → HasBuiltInNames built_in
have_names sound once built_in is =
    record {
      directives = subst DirectiveNames (same_directives sound once built_in is) row_directives;
      types = subst TypeNames (same_types sound once built_in is) row_types;
    }

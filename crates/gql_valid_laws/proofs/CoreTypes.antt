-- The types that fields of introspection name are there in each schema that a text means.
use Rattle.std.proofs.Common.{rules, ◌≡◌, ℕ, Bool, true, false, Option, Some, None, List, [], ◌∷◌, ◌++◌, fold, refl, sym, ap, ◌∙◌}
use Rattle.std.specs.Prelude.{codes}
use Rattle.std.specs.List.{filter}
use Rattle.std.specs.Option.{option_map_or}
use Rattle.std.specs.Str.{bytes_eq}
use Rattle.gql_ast.specs.declared.definition.Definition.{Definition}
use Rattle.gql_ast.specs.declared.document.Document.{Document}
use Rattle.gql_ast_base.specs.TypeParts.{named_type}
use Rattle.gql_ast_base.specs.declared.type_ref.TypeRef.{the_lemmas}
use Rattle.gql_ast.specs.declared.field_definition.FieldDefinition.{FieldDefinition}
use Rattle.gql_parser.proofs.Scalars.{built-entry}
use Rattle.gql_parser.proofs.SchemaKept.{validated-kept}
use Rattle.gql_parser.specs.BuiltInText.{built_in_text}
use Rattle.gql_parser.specs.OutputFields.{HaveNoReservedFields, HaveOutputTypes, NamesOutputType}
use Rattle.gql_parser.specs.Parsers.{its_file}
use Rattle.gql_parser.specs.SchemaText.{SchemaText, AreDefinitions, all_of, its_given}
use Rattle.gql_schema_rules_parts.specs.OutputType.{is_input_object}
use Rattle.gql_schema.proofs.Known.{SoundLaw, by_rows, is_built_in}
use Rattle.gql_schema.specs.BuiltInSchema.{IsBuiltIn, built_in_file}
use Rattle.gql_schema.specs.Builders.{Taken, built as schema_of}
use Rattle.gql_schema.specs.Rows as rows
use Rattle.gql_schema_build.specs.Built.{built}
use Rattle.gql_schema_build.specs.BuiltInScalarTypeRedefinition.{without_redefinitions}
use Rattle.gql_schema_build.specs.DefinitionNames.{definition_name}
use Rattle.gql_schema_build.specs.Extended.{extended}
use Rattle.gql_schema_build.specs.ExtensionNames.{extension_name}
use Rattle.gql_schema_build.specs.Merged.{firsts}
use Rattle.gql_schema_build.specs.TypeSystems.{with_definitions, no_definitions}
use Rattle.gql_schema_build.specs.TypeTable.{all_extended, types}
use Rattle.gql_schema_build.specs.declared.built_in.BuiltIn.{BuiltIn}
use Rattle.gql_schema_build.specs.declared.type_definition.TypeDefinition.{TypeDefinition}
use Rattle.gql_schema_build.specs.declared.type_definition.TypeDefinition.TheVariants as definition
use Rattle.gql_schema_build.specs.declared.type_extension.TypeExtension.{TypeExtension}
use Rattle.gql_schema_build.specs.declared.type_extension.TypeExtension.TheVariants as extension
use Rattle.gql_schema_build.specs.declared.type_system.TypeSystem.{TypeSystem}
use Rattle.gql_schema_types.proofs.Entries.{entry-front, joined-first}
use Rattle.gql_schema_types.specs.Entries.{entry, is_called}
use Rattle.gql_schema_types.specs.MetaFields.{schema_field, type_field, type_name_field}
use Rattle.gql_schema_types.specs.Types.{field_name, fields_of, type_called}
use Rattle.gql_schema_types.specs.declared.schema.Schema.{Schema}
use Rattle.gql_schema_types.specs.declared.types.ExtendedType.{ExtendedType}
use Rattle.gql_valid_laws.proofs.Depths.{IsOf, own_field, name_of_type, whole_schema, type_by_name, each-of, of-field}
use Rattle.gql_valid_laws.proofs.Implementing.{of-entry}
use Rattle.gql_valid_laws.proofs.WrittenNames.{OneDocument}
use Rattle.gql_valid_laws.specs.Outputs.{NameOutputTypes}

-- ---- a type of the built-in text keeps its kind

abbrev is_output : TypeDefinition → Bool
is_output (definition.InputObject d) = false
is_output _ = true

abbrev is_output_of : List TypeDefinition → List ℕ → Bool
is_output_of ds name = option_map_or is_output (entry definition_name name ds) false

output-kept : (d : TypeDefinition) (e : TypeExtension) → is_output (extended d e) ≡ is_output d
output-kept (definition.Scalar d) (extension.Scalar e) = refl
output-kept (definition.Object d) (extension.Object e) = refl
output-kept (definition.Interface d) (extension.Interface e) = refl
output-kept (definition.Union d) (extension.Union e) = refl
output-kept (definition.Enum d) (extension.Enum e) = refl
output-kept (definition.InputObject d) (extension.InputObject e) = refl
output-kept d e = refl

outputs-kept : (es : List TypeExtension) (d : TypeDefinition) → is_output (fold extended d es) ≡ is_output d
outputs-kept [] d = refl
outputs-kept (e ∷ es) d = outputs-kept es (extended d e) ∙ output-kept d e

as-output : (d : TypeDefinition) → is_output d ≡ true → is_input_object (built d) ≡ false
as-output (definition.Scalar d) is = refl
as-output (definition.Object d) is = refl
as-output (definition.Interface d) is = refl
as-output (definition.Union d) is = refl
as-output (definition.Enum d) is = refl
as-output (definition.InputObject d) is = absurd (let e : false ≡ true = is in cc)

abbrev IsThere : List ExtendedType → List ℕ → Type 0
IsThere ts name = (t : ExtendedType) × (type_called name ts ≡ Some t) × (is_input_object t ≡ false)

output-there : (es : List TypeExtension) (name : List ℕ) (front behind : List TypeDefinition) → is_output_of front name ≡ true → IsThere (types (front ++ behind) es) name
output-there es name front behind output = by_entry (entry definition_name name front) refl output
  where
    by_entry : (o : Option TypeDefinition) → entry definition_name name front ≡ o → option_map_or is_output o false ≡ true → IsThere (types (front ++ behind) es) name
    by_entry None is output = absurd (let e : false ≡ true = output in cc)
    by_entry (Some d) is output =
        let first : entry definition_name name (firsts (front ++ behind)) ≡ Some d =
        joined-first definition_name name d [] (front ++ behind) refl (entry-front definition_name name d front behind is) in (
          built (all_extended es d),
          built-entry es name d (firsts (front ++ behind)) first,
          as-output (all_extended es d) (outputs-kept (filter (is_called extension_name (definition_name d).text) es) d ∙ output),
        )

-- ---- the built-in text has these types

text_there : is_output_of by_rows.types (codes "String") ≡ true
unfolding rows.object_of rows.enum_of rows.scalar_of
text_there = refl

schema_there : is_output_of by_rows.types (codes "__Schema") ≡ true
unfolding rows.object_of rows.enum_of rows.scalar_of
schema_there = refl

type_there : is_output_of by_rows.types (codes "__Type") ≡ true
unfolding rows.object_of rows.enum_of rows.scalar_of
type_there = refl

module _ (sound : SoundLaw) (law : OneDocument) where
  rows-are : (built_in : BuiltIn) → IsBuiltIn built_in → built_in.types ≡ by_rows.types
  rows-are built_in is =
      let other : IsBuiltIn by_rows = is_built_in sound in
      let same : is.definitions ≡ other.definitions = law built_in_text built_in_file is.definitions other.definitions is.text other.text in
      is.types ∙ ap (λ (ds : List Definition). (with_definitions no_definitions ds).types) same ∙ sym other.types

  core-there : (text : List ℕ) (S : Schema) → SchemaText text S → (name : List ℕ) → is_output_of by_rows.types name ≡ true
      → bytes_eq name (codes "Int") ≡ false → bytes_eq name (codes "Float") ≡ false → bytes_eq name (codes "ID") ≡ false → IsThere S.types name
  core-there text S means name there int float id =
      let d : AreDefinitions text means.taken = means.definitions in
      let given : Document = record { sources = its_file (its_given text); definitions = d.definitions } in
      let user : TypeSystem = (all_of d.built_in given).user in
      let before : Schema = schema_of means.taken in
      let types_are : before.types ≡ types (d.built_in.types ++ without_redefinitions d.built_in.types user.types) user.type_extensions =
      ap (λ (t : Taken). (schema_of t).types) d.all in
      let found = output-there user.type_extensions name d.built_in.types (without_redefinitions d.built_in.types user.types)
      (ap (λ ds. is_output_of ds name) (rows-are d.built_in d.are_built_in) ∙ there) in (
        found.0,
        ap (λ (s : Schema). type_called name s.types) means.settled
            ∙ validated-kept before.directive_definitions name found.0 before.types int float id (ap (λ ts. type_called name ts) types_are ∙ found.1),
        found.2,
      )

  pub text-outputs : ((text : List ℕ) (schema : Schema) → SchemaText text schema → HaveOutputTypes schema)
      → ((text : List ℕ) (schema : Schema) → SchemaText text schema → HaveNoReservedFields schema)
      → (text : List ℕ) (S : Schema) → SchemaText text S → NameOutputTypes S
  text-outputs outputs unreserved text S means ty name field is = by (of-field S (outputs text S means) (unreserved text S means) ty name field is)
    where
      of-core : (core : List ℕ) → IsThere S.types core → (named_type field.ty).text ≡ core → NamesOutputType S.types field
      of-core core there same = record { type = there.0; defined = ap (λ n. type_called n S.types) same ∙ there.1; output = there.2 }

      by : IsOf S (outputs text S means) (unreserved text S means) name field → NamesOutputType S.types field
      by (own_field owner t at found) =
          of-entry field_name name (NamesOutputType S.types) (fields_of t) field (each-of (NamesOutputType S.types) (fields_of t) (outputs text S means owner t at)) found
      by (name_of_type called equal) =
          let named : (named_type type_name_field.ty).text ≡ codes "String" = search (rules, the_lemmas) in
          of-core (codes "String") (core-there text S means (codes "String") text_there refl refl refl) (ap (λ (d : FieldDefinition). (named_type d.ty).text) equal ∙ named)
      by (whole_schema called equal) =
          let named : (named_type schema_field.ty).text ≡ codes "__Schema" = search (rules, the_lemmas) in
          of-core (codes "__Schema") (core-there text S means (codes "__Schema") schema_there refl refl refl) (ap (λ (d : FieldDefinition). (named_type d.ty).text) equal ∙ named)
      by (type_by_name called equal) =
          let named : (named_type type_field.ty).text ≡ codes "__Type" = search (rules, the_lemmas) in
          of-core (codes "__Type") (core-there text S means (codes "__Type") type_there refl refl refl) (ap (λ (d : FieldDefinition). (named_type d.ty).text) equal ∙ named)

-- A schema whose text extends nothing built in has the types of introspection as they are built in.
use Rattle.std.proofs.Common.{◌≡◌, ℕ, Bool, true, false, cond, filter, Some, List, [], ◌∷◌, ◌++◌, codes, refl, sym, ap, ◌∙◌, subst}
use Rattle.std.specs.List.{AllByRecursion}
use Rattle.std.specs.Str.{bytes_eq}
use Rattle.std.proofs.lemmas.Slice.Eq.{bytes_eq-Decides}
use Rattle.gql_ast.specs.declared.definition.Definition.{Definition}
use Rattle.gql_ast.specs.declared.document.Document.{Document}
use Rattle.gql_client_schema_laws.specs.Shown.{is_own_name}
use Rattle.gql_client_schema_laws.specs.Introspection.{HasIntrospection}
use Rattle.gql_client_schema_laws.specs.OwnText.{IsOwnText}
use Rattle.gql_client_schema_laws.proofs.BuiltInFields.{rows_computed}
use Rattle.gql_client_schema_laws.proofs.Document.{OneDocument}
use Rattle.gql_client_schema_laws.proofs.BuiltInTypes.{definition_at, schema-there, type-there, field-there, input-there, value-there, directive-there, kinds-there, locations-there, texts-there, truths-there}
use Rattle.gql_parser.proofs.Scalars.{built-entry}
use Rattle.gql_parser.proofs.SchemaKept.{validated-kept}
use Rattle.gql_parser.specs.Parsers.{its_file}
use Rattle.gql_parser.specs.SchemaText.{SchemaText, AreDefinitions, all_of, its_given}
use Rattle.gql_schema.proofs.Known.{SoundLaw, by_rows, is_built_in}
use Rattle.gql_schema.specs.BuiltInSchema.{IsBuiltIn, built_in_file}
use Rattle.gql_schema.specs.Builders.{Taken, built as schema_of}
use Rattle.gql_schema.specs.declared.built_in_text.TheConstants.{BUILT_IN_TEXT}
use Rattle.gql_schema_build.specs.Built.{built}
use Rattle.gql_schema_build.specs.BuiltInScalarTypeRedefinition.{without_redefinitions}
use Rattle.gql_schema_build.specs.DefinitionNames.{definition_name}
use Rattle.gql_schema_build.specs.Extended.{extended}
use Rattle.gql_schema_build.specs.ExtensionNames.{extension_name}
use Rattle.gql_schema_build.specs.Merged.{firsts}
use Rattle.gql_schema_build.specs.TypeSystems.{with_definitions, no_definitions}
use Rattle.gql_schema_build.specs.TypeTable.{all_extended, types}
use Rattle.gql_schema_build.specs.declared.built_in.BuiltIn.{BuiltIn}
use Rattle.gql_schema_build.specs.declared.type_definition.TypeDefinition.{TypeDefinition}
use Rattle.gql_schema_build.specs.declared.type_extension.TypeExtension.{TypeExtension}
use Rattle.gql_schema_build.specs.declared.type_system.TypeSystem.{TypeSystem}
use Rattle.gql_schema_types.proofs.Entries.{entry-front, joined-first}
use Rattle.gql_schema_types.specs.Entries.{entry, is_called}
use Rattle.gql_schema_types.specs.Types.{type_called}
use Rattle.gql_schema_types.specs.declared.schema.Schema.{Schema}
use Rattle.std.proofs.Common.{fold}

-- extensions of what is not built in leave what is built in as it is
abbrev IsOwnExtension : TypeExtension → Type 0
IsOwnExtension e = is_own_name (extension_name e).text ≡ true

none-called : (name : List ℕ) → is_own_name name ≡ false → (es : List TypeExtension) → AllByRecursion IsOwnExtension es → filter (is_called extension_name name) es ≡ []
none-called name other [] own = refl
none-called name other (e ∷ es) own =
    ap (λ b. cond b (e ∷ filter (is_called extension_name name) es) (filter (is_called extension_name name) es)) (different (bytes_eq name (extension_name e).text) refl)
    ∙ none-called name other es own.1
  where
    different : (b : Bool) → bytes_eq name (extension_name e).text ≡ b → b ≡ false
    different true is =
        let same : name ≡ (extension_name e).text = (bytes_eq-Decides name (extension_name e).text).0 is in
        let both : true ≡ false = sym own.0 ∙ sym (ap is_own_name same) ∙ other in
        absurd cc
    different false is = refl

module _ (sound : SoundLaw) (once : OneDocument) where
  rows-are : (built_in : BuiltIn) → IsBuiltIn built_in → built_in.types ≡ by_rows.types
  rows-are built_in is =
      let other : IsBuiltIn by_rows = is_built_in sound in
      let same : is.definitions ≡ other.definitions = once BUILT_IN_TEXT.now built_in_file is.definitions other.definitions is.text other.text in
      is.types ∙ ap (λ (ds : List Definition). (with_definitions no_definitions ds).types) same ∙ sym other.types

  module _ (text : List ℕ) (S : Schema) (own : IsOwnText text S) where
    there : (name : List ℕ) (d : TypeDefinition) → entry definition_name name by_rows.types ≡ Some d → (definition_name d).text ≡ name → is_own_name name ≡ false
        → bytes_eq name (codes "Int") ≡ false → bytes_eq name (codes "Float") ≡ false → bytes_eq name (codes "ID") ≡ false → type_called name S.types ≡ Some (built d)
    there name d found named other int float id =
        let means : SchemaText text S = own.means in
        let its : AreDefinitions text means.taken = means.definitions in
        let given : Document = record { sources = its_file (its_given text); definitions = its.definitions } in
        let user : TypeSystem = (all_of its.built_in given).user in
        let before : Schema = schema_of means.taken in
        let extensions : AllByRecursion IsOwnExtension user.type_extensions = subst (λ (t : Taken). AllByRecursion IsOwnExtension t.user.type_extensions) its.all own.own.type_extensions in
        let types_are : before.types ≡ types (its.built_in.types ++ without_redefinitions its.built_in.types user.types) user.type_extensions =
        ap (λ (t : Taken). (schema_of t).types) its.all in
        let behind = without_redefinitions its.built_in.types user.types in
        let front : entry definition_name name its.built_in.types ≡ Some d = ap (entry definition_name name) (rows-are its.built_in its.are_built_in) ∙ found in
        let first : entry definition_name name (firsts (its.built_in.types ++ behind)) ≡ Some d =
        joined-first definition_name name d [] (its.built_in.types ++ behind) refl (entry-front definition_name name d its.built_in.types behind front) in
        let plain : all_extended user.type_extensions d ≡ d =
        ap (fold extended d) (ap (λ n. filter (is_called extension_name n) user.type_extensions) named ∙ none-called name other user.type_extensions extensions) in
        ap (λ (s : Schema). type_called name s.types) means.settled
        ∙ validated-kept before.directive_definitions name (built d) before.types int float id
        (ap (λ ts. type_called name ts) types_are ∙ built-entry user.type_extensions name d (firsts (its.built_in.types ++ behind)) first ∙ ap (λ (e : TypeDefinition). Some (built e)) plain)

    pub introspects : HasIntrospection S
    unfolding rows_computed
    introspects = record {
      schema_type = schema-there S (there (codes "__Schema") (definition_at 0 refl) refl refl refl refl refl refl);
      type_type = type-there S (there (codes "__Type") (definition_at 1 refl) refl refl refl refl refl refl);
      field_type = field-there S (there (codes "__Field") (definition_at 3 refl) refl refl refl refl refl refl);
      input_type = input-there S (there (codes "__InputValue") (definition_at 4 refl) refl refl refl refl refl refl);
      value_type = value-there S (there (codes "__EnumValue") (definition_at 5 refl) refl refl refl refl refl refl);
      directive_type = directive-there S (there (codes "__Directive") (definition_at 6 refl) refl refl refl refl refl refl);
      kinds = kinds-there S (there (codes "__TypeKind") (definition_at 2 refl) refl refl refl refl refl refl);
      locations = locations-there S (there (codes "__DirectiveLocation") (definition_at 7 refl) refl refl refl refl refl refl);
      texts = texts-there S (there (codes "String") (definition_at 10 refl) refl refl refl refl refl refl);
      truths = truths-there S (there (codes "Boolean") (definition_at 11 refl) refl refl refl refl refl refl);
    }

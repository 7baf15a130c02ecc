-- The fields of a schema that a text means have names of users, and name types that are there.
use Rattle.std.proofs.Common.{◌≡◌, ℕ, Bool, true, false, not, ◌&&◌, ◌||◌, ◌⊎◌, inl, inr, cond, if◌then◌else◌, Option, Some, None, is_some, List, [], ◌∷◌, ◌++◌, fold, get_or, All, refl, sym, ap, ◌∙◌, subst}
use Rattle.std.specs.Prelude.{codes}
use Rattle.std.specs.List.{filter, flat_map, list_all, list_any}
use Rattle.std.specs.Option.{option_map_or}
use Rattle.std.specs.Str.{bytes_eq}
use Rattle.std.proofs.lemmas.Slice.Eq.{bytes_eq-Decides}
use Rattle.gql_source.specs.declared.file_id.FileId.{FileId}
use Rattle.gql_ast.specs.declared.definition.Definition.{Definition}
use Rattle.gql_ast.specs.declared.document.Document.{Document}
use Rattle.gql_ast_base.specs.Names.{Named, is_reserved}
use Rattle.gql_ast_base.specs.TypeParts.{named_type}
use Rattle.gql_ast.specs.declared.field_definition.FieldDefinition.{FieldDefinition}
use Rattle.gql_ast.specs.declared.schema_definition.DirectiveLocation.TheVariants as at
use Rattle.gql_ast_laws.proofs.Kept.{Each, all-of}
use Rattle.gql_ast_laws.specs.FieldsIn.{HasFieldsIn}
use Rattle.gql_ast_laws.specs.Meant.{IsDocumentOf}
use Rattle.gql_diag_messages.specs.declared.diagnostic_data.DiagnosticData.{DiagnosticData}
use Rattle.gql_diag_messages.specs.declared.rule.Rule.TheVariants.{ReservedName, UndefinedDefinition, OutputType}
use Rattle.gql_parser.proofs.BuiltInFields.{built-in-sourced, core-there, is_output_definition, is_output_of}
use Rattle.gql_parser.proofs.BuiltInText.{OneDocument}
use Rattle.gql_parser.proofs.Kept.{back_empty, front_empty}
use Rattle.gql_parser.proofs.Scalars.{built-entry, scalar-scalar}
use Rattle.gql_parser.proofs.SchemaKept.{validated-kept}
use Rattle.gql_parser.proofs.Settling.{AreThere, any-at, is_scalar_type, each-settled, settled-there, before-settled}
use Rattle.gql_parser.proofs.SourcedFields.{core_names, IsBuiltInField, IsSourced, OfType, OfSystem, of-types, of-definitions}
use Rattle.gql_parser.specs.BuiltInText.{is_scalar_of}
use Rattle.gql_parser.specs.OutputFields.{HaveNoReservedFields, NamesOutputType, HaveOutputTypes}
use Rattle.gql_parser.specs.Parsers.{its_file}
use Rattle.gql_parser.specs.SchemaText.{SchemaText, AreDefinitions, all_of, its_given}
use Rattle.gql_schema_rules_parts.specs.EmptyFieldSet.{empty_field_set}
use Rattle.gql_schema_rules_parts.specs.Fields as fields
use Rattle.gql_schema_rules_parts.specs.InterfaceRules.{interfaces_faults}
use Rattle.gql_schema_rules_parts.specs.OutputType.{is_input_object, output_type}
use Rattle.gql_schema_rules_parts.specs.ReservedName.{reserved_name}
use Rattle.gql_schema_rules_parts.specs.SchemaRules.{schema_definition_faults, directive_definitions_faults}
use Rattle.gql_schema_rules_parts.specs.TypeRules.{name_faults, if_written, listed_names_faults, type_faults, types_faults}
use Rattle.gql_schema_rules_parts.specs.UndefinedDefinition.{undefined_definition}
use Rattle.gql_rules_values.specs.Directives.{directive_faults}
use Rattle.gql_rules_values.specs.Faults.{fault, name_fault, only_if}
use Rattle.gql_rules_values.specs.Known.{is_built_in_scalar, is_known}
use Rattle.gql_rules_values.specs.Written.{is_written}
use Rattle.gql_rules_values.specs.declared.known.Defined.TheVariants.{TypesAndScalars}
use Rattle.gql_schema.proofs.Known.{SoundLaw}
use Rattle.gql_schema.specs.BuiltInSchema.{IsBuiltIn}
use Rattle.gql_schema.specs.Builders.{Taken, built}
use Rattle.gql_schema_build.specs.Built as one_built
use Rattle.gql_schema_build.specs.BuiltInScalarTypeRedefinition.{without_redefinitions}
use Rattle.gql_schema_build.specs.DefinitionNames.{definition_name}
use Rattle.gql_schema_build.specs.Extended.{extended}
use Rattle.gql_schema_build.specs.ExtensionNames.{extension_name}
use Rattle.gql_schema_build.specs.Merged.{firsts}
use Rattle.gql_schema_build.specs.TypeSystems.{no_definitions}
use Rattle.gql_schema_build.specs.TypeTable.{all_extended, types}
use Rattle.gql_schema_build.specs.declared.built_in.BuiltIn.{BuiltIn}
use Rattle.gql_schema_build.specs.declared.type_definition.TypeDefinition.{TypeDefinition}
use Rattle.gql_schema_build.specs.declared.type_definition.TypeDefinition.TheVariants as definition
use Rattle.gql_schema_build.specs.declared.type_extension.TypeExtension.{TypeExtension}
use Rattle.gql_schema_build.specs.declared.type_extension.TypeExtension.TheVariants as extension
use Rattle.gql_schema_build.specs.declared.type_system.TypeSystem.{TypeSystem}
use Rattle.gql_schema_rules.specs.Scalars.{field_names, names, type_names, built_in_scalars, validated, validated_types}
use Rattle.gql_schema_rules.specs.SchemaFaults.{AreSchemaFaults, parts_faults}
use Rattle.gql_schema_types.proofs.Entries.{entry-front, joined-first}
use Rattle.gql_schema_types.specs.Entries.{is_called, entry}
use Rattle.gql_schema_types.specs.Types.{type_name, type_called, fields_of, field_name}
use Rattle.gql_schema_types.specs.declared.schema.Schema.{Schema}
use Rattle.gql_schema_types.specs.declared.types.ExtendedType.{ExtendedType}
use Rattle.gql_schema_types.specs.declared.types.ExtendedType.TheVariants as type

not_told : (b : Bool) (told : DiagnosticData) → only_if b told ≡ [] → b ≡ false
not_told true told none = absurd cc
not_told false told none = refl

not_false : (b : Bool) → not b ≡ false → b ≡ true
not_false true none = refl
not_false false none = absurd cc

-- what holds of each holds of the one of a name
of-entry : {X : Type 0} (own : X → Named) (name : List ℕ) (P : X → Type 0) (xs : List X) (x : X) → Each P xs → entry own name xs ≡ Some x → P x
of-entry own name P [] x each found = absurd cc
of-entry own name P (y ∷ ys) x each found = by_test (is_called own name y) found (of-entry own name P ys x each.1)
  where
    by_test : (b : Bool) → cond b (Some y) (entry own name ys) ≡ Some x → (entry own name ys ≡ Some x → P x) → P x
    by_test true found later = let same : y ≡ x = cc in subst P same each.0
    by_test false found later = later found

-- ---- the rules find nothing

no-type-fault : (schema : Schema) → AreSchemaFaults schema [] → types_faults schema ≡ []
no-type-fault schema holds =
    let before = schema_definition_faults schema ++ directive_definitions_faults schema in
    let of_chains : ((parts_faults schema ++ holds.interfaces) ++ holds.input_objects) ++ holds.directives ≡ [] = sym holds.whole in
    let of_parts : parts_faults schema ≡ [] =
    front_empty (parts_faults schema) holds.interfaces (front_empty (parts_faults schema ++ holds.interfaces) holds.input_objects
    (front_empty ((parts_faults schema ++ holds.interfaces) ++ holds.input_objects) holds.directives of_chains)) in
    back_empty before (types_faults schema) (front_empty (before ++ types_faults schema) (interfaces_faults schema.types) of_parts)

module _ (schema : Schema) where
  abbrev name_in : FieldDefinition → List ℕ
  name_in field = (named_type field.ty).text

  -- a user's field, of a type that counts as defined and is no input object type
  record IsWell (field : FieldDefinition) : Type 0 where
    written : is_written field.location ≡ true
    known : is_known schema.types (name_in field) ≡ true
    output : option_map_or is_input_object (type_called (name_in field) schema.types) false ≡ false

  record IsFine (field : FieldDefinition) : Type 0 where
    unreserved : is_reserved field.name.text ≡ false
    source : IsWell field ⊎ IsBuiltInField field

  fine : (field : FieldDefinition) → IsSourced field → fields.field_faults schema field ≡ [] → IsFine field
  fine field (inr own) none = record { unreserved = own.unreserved; source = inr own }
  fine field (inl written) none =
      let told = fields.written_field_faults schema field in
      let all : told ≡ [] = sym (ap (λ (b : Bool). if b then told else []) written) ∙ none in
      let R = reserved_name field.name in
      let T = fields.type_faults schema field in
      let P = fields.parts_faults schema field in
      let U = undefined_definition schema.types (named_type field.ty) in
      let O = output_type schema.types field in
      let of_type : T ≡ [] = front_empty T P (back_empty R (T ++ P) all) in
      let undefined = not_told (not (is_known schema.types (name_in field))) (name_fault UndefinedDefinition (named_type field.ty)) (front_empty U O of_type) in
      record {
        unreserved = not_told (is_reserved field.name.text) (name_fault ReservedName field.name) (front_empty R (T ++ P) all);
        source = inl (record {
          written = written;
          known = not_false (is_known schema.types (name_in field)) undefined;
          output =
              not_told (option_map_or is_input_object (type_called (name_in field) schema.types) false) (fault OutputType (field.name.text ∷ []) field.location None)
              (back_empty U O of_type);
        });
      }

  all-fine : (its : List FieldDefinition) → Each IsSourced its → fields.fields_faults schema its ≡ [] → Each IsFine its
  all-fine [] sourced none = tt
  all-fine (field ∷ its) sourced none = (
    fine field sourced.0 (front_empty (fields.field_faults schema field) (fields.fields_faults schema its) none),
    all-fine its sourced.1 (back_empty (fields.field_faults schema field) (fields.fields_faults schema its) none),
  )

  fields-none : (ty : ExtendedType) → type_faults schema ty ≡ [] → fields.fields_faults schema (fields_of ty) ≡ []
  fields-none (type.Object it) none =
      let N = name_faults it.location it.name in
      let E = if_written it.location (empty_field_set it.name it.fields) in
      let D = directive_faults TypesAndScalars schema.types at.Object schema.directive_definitions it.directives in
      let L = listed_names_faults schema it.implements_interfaces in
      let F = fields.fields_faults schema it.fields in
      back_empty L F (back_empty D (L ++ F) (back_empty E (D ++ (L ++ F)) (back_empty N (E ++ (D ++ (L ++ F))) none)))
  fields-none (type.Interface it) none =
      let N = name_faults it.location it.name in
      let E = if_written it.location (empty_field_set it.name it.fields) in
      let D = directive_faults TypesAndScalars schema.types at.Interface schema.directive_definitions it.directives in
      let L = listed_names_faults schema it.implements_interfaces in
      let F = fields.fields_faults schema it.fields in
      back_empty L F (back_empty D (L ++ F) (back_empty E (D ++ (L ++ F)) (back_empty N (E ++ (D ++ (L ++ F))) none)))
  fields-none (type.Scalar it) none = refl
  fields-none (type.Union it) none = refl
  fields-none (type.Enum it) none = refl
  fields-none (type.InputObject it) none = refl

  abbrev AreFine : ExtendedType → Type 0
  AreFine ty = Each IsFine (fields_of ty)

  types-fine : (ts : List ExtendedType) → Each OfType ts → flat_map (type_faults schema) ts ≡ [] → Each AreFine ts
  types-fine [] sourced none = tt
  types-fine (ty ∷ ts) sourced none = (
    all-fine (fields_of ty) sourced.0 (fields-none ty (front_empty (type_faults schema ty) (flat_map (type_faults schema) ts) none)),
    types-fine ts sourced.1 (back_empty (type_faults schema ty) (flat_map (type_faults schema) ts) none),
  )

  no-reserved : (its : List FieldDefinition) → Each IsFine its → (reserved : List ℕ) → is_reserved reserved ≡ true → entry field_name reserved its ≡ None
  no-reserved [] each reserved is = refl
  no-reserved (field ∷ its) each reserved is = by_test (is_called field_name reserved field) refl (no-reserved its each.1 reserved is)
    where
      by_test : (b : Bool) → is_called field_name reserved field ≡ b → entry field_name reserved its ≡ None → cond b (Some field) (entry field_name reserved its) ≡ None
      by_test false other later = later
      by_test true called later =
          let same : reserved ≡ field.name.text = (bytes_eq-Decides reserved field.name.text).0 called in
          let e : true ≡ false = sym is ∙ ap is_reserved same ∙ each.0.unreserved in
          absurd cc

-- ---- a type of the built-in text keeps its kind

output-kept : (d : TypeDefinition) (e : TypeExtension) → is_output_definition (extended d e) ≡ is_output_definition d
output-kept (definition.Scalar d) (extension.Scalar e) = refl
output-kept (definition.Object d) (extension.Object e) = refl
output-kept (definition.Interface d) (extension.Interface e) = refl
output-kept (definition.Union d) (extension.Union e) = refl
output-kept (definition.Enum d) (extension.Enum e) = refl
output-kept (definition.InputObject d) (extension.InputObject e) = refl
output-kept d e = refl

outputs-kept : (es : List TypeExtension) (d : TypeDefinition) → is_output_definition (fold extended d es) ≡ is_output_definition d
outputs-kept [] d = refl
outputs-kept (e ∷ es) d = outputs-kept es (extended d e) ∙ output-kept d e

as-output : (d : TypeDefinition) → is_output_definition d ≡ true → is_input_object (one_built.built d) ≡ false
as-output (definition.Scalar d) h = refl
as-output (definition.Object d) h = refl
as-output (definition.Interface d) h = refl
as-output (definition.Union d) h = refl
as-output (definition.Enum d) h = refl
as-output (definition.InputObject d) h = absurd cc

output-there : (es : List TypeExtension) (name : List ℕ) (front behind : List TypeDefinition) → is_output_of front name ≡ true
    → (t : ExtendedType) × ((type_called name (types (front ++ behind) es) ≡ Some t) × (is_input_object t ≡ false))
output-there es name front behind output = by_entry (entry definition_name name front) refl output
  where
    by_entry : (o : Option TypeDefinition) → entry definition_name name front ≡ o → option_map_or is_output_definition o false ≡ true
        → (t : ExtendedType) × ((type_called name (types (front ++ behind) es) ≡ Some t) × (is_input_object t ≡ false))
    by_entry None is output = absurd cc
    by_entry (Some d) is output =
        let first : entry definition_name name (firsts (front ++ behind)) ≡ Some d =
        joined-first definition_name name d [] (front ++ behind) refl (entry-front definition_name name d front behind is) in (
          one_built.built (all_extended es d),
          (
            built-entry es name d (firsts (front ++ behind)) first,
            as-output (all_extended es d) (outputs-kept (filter (is_called extension_name (definition_name d).text) es) d ∙ output),
          ),
        )

-- what passes for each of these names passes for a name that is among them
all-any : (p : List ℕ → Bool) (n : List ℕ) (all : List (List ℕ)) → list_all p all ≡ true → list_any (bytes_eq n) all ≡ true → p n ≡ true
all-any p n [] passes among = absurd cc
all-any p n (m ∷ all) passes among = by_test (λ below. all-any p n all (both-true (p m) (list_all p all) passes).1 below) (bytes_eq n m) refl among
  where
    both-true : (a b : Bool) → (a && b) ≡ true → (a ≡ true) × (b ≡ true)
    both-true true true h = (refl, refl)
    both-true true false h = absurd (cc)
    both-true false b h = absurd (cc)

    by_test : (list_any (bytes_eq n) all ≡ true → p n ≡ true) → (b : Bool) → bytes_eq n m ≡ b → (b || list_any (bytes_eq n) all) ≡ true → p n ≡ true
    by_test rest true is among = ap p ((bytes_eq-Decides n m).0 is) ∙ (both-true (p m) (list_all p all) passes).0
    by_test rest false is among = rest among

abbrev is_other : List ℕ → List ℕ → Bool
is_other m n = not (bytes_eq n m)

not-true : (b : Bool) → not b ≡ true → b ≡ false
not-true true h = absurd cc
not-true false h = refl

-- ---- a schema that a text means

abbrev pub ScalarsLaw : Type 0
ScalarsLaw = (built_in : BuiltIn) → IsBuiltIn built_in → list_all (is_scalar_of built_in) built_in_scalars ≡ true

abbrev pub PlacesLaw : Type 0
PlacesLaw = (text : List ℕ) (file : FileId) (definitions : List Definition) → IsDocumentOf text file definitions → All (HasFieldsIn file) definitions

module _ (sound : SoundLaw) (one : OneDocument) (scalars : ScalarsLaw) (places : PlacesLaw) (text : List ℕ) (taken : Taken) (d : AreDefinitions text taken)
    (holds : AreSchemaFaults (built taken) []) where
  abbrev schema : Schema
  schema = built taken

  abbrev given : Document
  given = record { sources = its_file (its_given text); definitions = d.definitions }

  abbrev user : TypeSystem
  user = (all_of d.built_in given).user

  types-are : schema.types ≡ types (d.built_in.types ++ without_redefinitions d.built_in.types user.types) user.type_extensions
  types-are = ap (λ (t : Taken). (built t).types) d.all

  sourced : Each OfType schema.types
  sourced =
      let system : OfSystem user =
      of-definitions (its_given text).file refl d.definitions no_definitions (record { types = tt; extensions = tt }) (places text (its_given text).file d.definitions d.mean) in
      subst (Each OfType) (sym types-are)
      (of-types d.built_in.types user.types user.type_extensions (built-in-sourced sound one d.built_in d.are_built_in) system.types system.extensions)

  all-types-fine : Each (AreFine schema) schema.types
  all-types-fine = types-fine schema schema.types sourced (no-type-fault schema holds)

  pub no-reserved-fields : HaveNoReservedFields (validated schema)
  no-reserved-fields name reserved ty found is =
      no-reserved schema (fields_of ty)
      (of-entry type_name name (AreFine schema) (validated_types schema.directive_definitions schema.types) ty
      (each-settled schema.directive_definitions (AreFine schema) (λ m. tt) schema.types all-types-fine) found)
      reserved is

  -- ---- what fields name is there

  scalar-of : (n : List ℕ) → is_scalar_of d.built_in n ≡ true → (t : ExtendedType) × ((type_called n schema.types ≡ Some t) × (is_scalar_type t ≡ true))
  scalar-of n scalar =
      let found = scalar-scalar user.type_extensions n d.built_in.types (without_redefinitions d.built_in.types user.types) scalar in
      (type.Scalar found.0, (ap (λ ts. type_called n ts) types-are ∙ found.1, refl))

  its-scalar : (n : List ℕ) → list_any (bytes_eq n) built_in_scalars ≡ true → is_scalar_of d.built_in n ≡ true
  its-scalar n among = all-any (is_scalar_of d.built_in) n built_in_scalars (scalars d.built_in d.are_built_in) among

  -- another type has another name than a built-in scalar
  apart : (name : List ℕ) (ty : ExtendedType) → type_called name schema.types ≡ Some ty → is_scalar_type ty ≡ false → (n : List ℕ) → is_scalar_of d.built_in n ≡ true
      → bytes_eq name n ≡ false
  apart name ty found kind n scalar = by_test (bytes_eq name n) refl
    where
      by_test : (b : Bool) → bytes_eq name n ≡ b → b ≡ false
      by_test false is = refl
      by_test true is =
          let same : name ≡ n = (bytes_eq-Decides name n).0 is in
          let s = scalar-of n scalar in
          let both : Some ty ≡ Some s.0 = sym found ∙ ap (λ k. type_called k schema.types) same ∙ s.1.0 in
          let equal : ty ≡ s.0 = cc in
          let e : false ≡ true = sym kind ∙ ap is_scalar_type equal ∙ s.1.1 in
          absurd cc

  single : (n : List ℕ) → is_known schema.types n ≡ true → option_map_or is_input_object (type_called n schema.types) false ≡ false
      → (t : ExtendedType) × ((type_called n schema.types ≡ Some t) × (is_input_object t ≡ false))
  single n known output = by_entry (type_called n schema.types) refl known output
    where
      -- a built-in scalar by the names one after the other
      among : (a b c e f : Bool) → (a || (b || (c || (e || f)))) ≡ true → (a || (b || (c || (e || (f || false))))) ≡ true
      among true b c e f h = refl
      among false true c e f h = refl
      among false false true e f h = refl
      among false false false true f h = refl
      among false false false false true h = refl
      among false false false false false h = absurd cc

      by_entry : (o : Option ExtendedType) → type_called n schema.types ≡ o → (is_some o || is_built_in_scalar n) ≡ true → option_map_or is_input_object o false ≡ false
          → (t : ExtendedType) × ((type_called n schema.types ≡ Some t) × (is_input_object t ≡ false))
      by_entry (Some t) is known output = (t, (is, output))
      by_entry None is known output =
          let s = scalar-of n (its-scalar n (among (bytes_eq n (codes "Int")) (bytes_eq n (codes "Float")) (bytes_eq n (codes "String")) (bytes_eq n (codes "Boolean")) (bytes_eq n (codes "ID")) known)) in
          let e : None ≡ Some s.0 = sym is ∙ s.1.0 in
          absurd cc

  -- ---- and stays where the scalars are settled

  module _ (name : List ℕ) (ty : ExtendedType) (found : type_called name schema.types ≡ Some ty) (kind : is_scalar_type ty ≡ false) where
    of-scalar : (n : List ℕ) → list_any (bytes_eq n) built_in_scalars ≡ true → bytes_eq name n ≡ false
    of-scalar n among = apart name ty found kind n (its-scalar n among)

    named-there : (field : FieldDefinition) → IsFine schema field → (is_written field.location ≡ true → type_names (name_in schema field) ty ≡ true)
        → NamesOutputType (validated schema).types field
    named-there field is naming = by_source is.source
      where
        by_source : IsWell schema field ⊎ IsBuiltInField field → NamesOutputType (validated schema).types field
        by_source (inl own) =
            let n = name_in schema field in
            let target = single n own.known own.output in
            let named = naming own.written in
            let there : AreThere schema.directive_definitions name n ty target.0 named (validated schema).types =
            settled-there schema.directive_definitions name n ty target.0 named (of-scalar (codes "Int") refl) (of-scalar (codes "Float") refl) (of-scalar (codes "ID") refl) schema.types
            (record { owner = found; target = target.1.0 }) in
            record { type = target.0; defined = there.target; output = target.1.1 }
        by_source (inr own) =
            let n = name_in schema field in
            let output = all-any (is_output_of d.built_in.types) n core_names (core-there sound one d.built_in d.are_built_in) own.core in
            let target = output-there user.type_extensions n d.built_in.types (without_redefinitions d.built_in.types user.types) output in
            let defined : type_called n schema.types ≡ Some target.0 = ap (λ ts. type_called n ts) types-are ∙ target.1.0 in
            record {
              type = target.0;
              defined =
                  validated-kept schema.directive_definitions n target.0 schema.types
                  (not-true (bytes_eq n (codes "Int")) (all-any (is_other (codes "Int")) n core_names refl own.core))
                  (not-true (bytes_eq n (codes "Float")) (all-any (is_other (codes "Float")) n core_names refl own.core))
                  (not-true (bytes_eq n (codes "ID")) (all-any (is_other (codes "ID")) n core_names refl own.core)) defined;
              output = target.1.1;
            }

    -- the fields of a list that the type's names are told by
    its-fields : (its : List FieldDefinition) → Each (IsFine schema) its → ((n : List ℕ) → type_names n ty ≡ list_any (field_names n) its)
        → All (NamesOutputType (validated schema).types) its
    its-fields its each told k e lt =
        let field = get_or its k e in
        let n = name_in schema field in
        let same : bytes_eq n n ≡ true = (bytes_eq-Decides n n).1 refl in
        named-there field (all-of (IsFine schema) its each k e lt)
        (λ written. told n ∙ any-at (field_names n) its k e lt
        (ap (λ b. b && (bytes_eq n n || list_any (names n) field.arguments)) written ∙ ap (λ b. b || list_any (names n) field.arguments) same))

  by-kind : (name : List ℕ) (ty : ExtendedType) → type_called name (validated schema).types ≡ Some ty → All (NamesOutputType (validated schema).types) (fields_of ty)
  by-kind name (type.Object it) found =
      let before = before-settled schema.directive_definitions name (type.Object it) refl schema.types found in
      its-fields name (type.Object it) before refl it.fields (of-entry type_name name (AreFine schema) schema.types (type.Object it) all-types-fine before) (λ n. refl)
  by-kind name (type.Interface it) found =
      let before = before-settled schema.directive_definitions name (type.Interface it) refl schema.types found in
      its-fields name (type.Interface it) before refl it.fields (of-entry type_name name (AreFine schema) schema.types (type.Interface it) all-types-fine before) (λ n. refl)
  by-kind name (type.Scalar it) found = all-of (NamesOutputType (validated schema).types) [] tt
  by-kind name (type.Union it) found = all-of (NamesOutputType (validated schema).types) [] tt
  by-kind name (type.Enum it) found = all-of (NamesOutputType (validated schema).types) [] tt
  by-kind name (type.InputObject it) found = all-of (NamesOutputType (validated schema).types) [] tt

  pub output-fields : HaveOutputTypes (validated schema)
  output-fields name ty found = by-kind name ty found

-- ---- by its text

pub text-unreserved : SoundLaw → OneDocument → ScalarsLaw → PlacesLaw → (text : List ℕ) (schema : Schema) → SchemaText text schema → HaveNoReservedFields schema
text-unreserved sound one scalars places text S h =
    subst HaveNoReservedFields (sym h.settled) (no-reserved-fields sound one scalars places text h.taken h.definitions h.holds)

pub text-outputs : SoundLaw → OneDocument → ScalarsLaw → PlacesLaw → (text : List ℕ) (schema : Schema) → SchemaText text schema → HaveOutputTypes schema
text-outputs sound one scalars places text S h =
    subst HaveOutputTypes (sym h.settled) (output-fields sound one scalars places text h.taken h.definitions h.holds)

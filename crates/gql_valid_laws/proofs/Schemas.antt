-- The input fields of a validated schema can be coerced.
use Rattle.std.proofs.Common.{◌≡◌, ℕ, Bool, true, false, not, ◌&&◌, ◌||◌, if◌then◌else◌, Option, Some, None, is_some, List, [], ◌∷◌, ◌++◌, get_or, All, refl, sym, ap, ◌∙◌, subst, arith}
use Rattle.std.specs.Prelude.{codes}
use Rattle.std.specs.List.{list_all, list_any}
use Rattle.std.specs.Option.{option_map_or, option_and_then}
use Rattle.std.specs.Str.{bytes_eq}
use Rattle.std.proofs.lemmas.List.Sums.{AllPass-from_list_all}
use Rattle.std.proofs.lemmas.Slice.Eq.{bytes_eq-Decides}
use Rattle.gql_source.specs.declared.file_id.FileId.{FileId}
use Rattle.gql_ast.specs.declared.definition.Definition.{Definition}
use Rattle.gql_ast.specs.declared.document.Document.{Document}
use Rattle.gql_ast_laws.specs.Defaults.{HasConstantDefaults}
use Rattle.gql_valid_laws.proofs.Each.{Each, all-of}
use Rattle.gql_ast.specs.declared.field_definition.InputValueDefinition.{InputValueDefinition}
use Rattle.gql_ast.specs.declared.schema_definition.DirectiveLocation.TheVariants as at
use Rattle.gql_ast_laws.specs.Meant.{IsDocumentOf}
use Rattle.gql_diag_messages.specs.declared.rule.Rule.TheVariants.{UndefinedDefinition, InputType}
use Rattle.gql_parser.specs.Parsers.{its_file}
use Rattle.gql_rules_values.specs.Faults.{fault, name_fault}
use Rattle.gql_rules_values.specs.Known.{is_built_in_scalar, is_known}
use Rattle.gql_ast_base.specs.TypeParts.{named_type}
use Rattle.gql_rules_values.specs.Written.{is_written}
use Rattle.gql_rules_values.specs.declared.known.Defined.TheVariants.{TypesAndScalars}
use Rattle.gql_rules_values.specs.Directives.{directive_faults}
use Rattle.gql_schema.specs.BuiltInSchema.{IsBuiltIn}
use Rattle.gql_schema.specs.Builders.{Taken, built}
use Rattle.gql_schema_build.specs.BuiltInScalarTypeRedefinition.{without_redefinitions}
use Rattle.gql_schema_build.specs.TypeSystems.{no_definitions}
use Rattle.gql_schema_build.specs.TypeTable.{types}
use Rattle.gql_schema_build.specs.declared.built_in.BuiltIn.{BuiltIn}
use Rattle.gql_schema_build.specs.declared.type_system.TypeSystem.{TypeSystem}
use Rattle.gql_parser.specs.BuiltInText.{is_scalar_of}
use Rattle.gql_valid_laws.proofs.BuiltInText.{is_input_object}
use Rattle.gql_schema_rules.specs.Scalars.{input_names, built_in_scalars, validated}
use Rattle.gql_schema_rules.specs.SchemaFaults.{AreSchemaFaults, parts_faults}
use Rattle.gql_schema_rules_parts.specs.InterfaceRules.{interfaces_faults}
use Rattle.gql_schema_rules_parts.specs.EmptyInputValueSet.{empty_input_value_set}
use Rattle.gql_schema_rules_parts.specs.InputType.{input_type}
use Rattle.gql_schema_rules_parts.specs.InputValues.{type_faults as value_type_faults, default_faults, input_value_faults, input_field_faults, input_fields_faults}
use Rattle.gql_schema_rules_parts.specs.OneOfField.{one_of_fields}
use Rattle.gql_schema_rules_parts.specs.ReservedName.{reserved_name}
use Rattle.gql_schema_rules_parts.specs.SchemaRules.{schema_definition_faults, directive_definitions_faults}
use Rattle.gql_schema_rules_parts.specs.TypeRules.{name_faults, if_written, type_faults, types_faults}
use Rattle.gql_schema_rules_parts.specs.UndefinedDefinition.{undefined_definition}
use Rattle.gql_schema_types.specs.Types.{type_name, type_called, is_composite}
use Rattle.gql_schema_types.specs.declared.schema.Schema.{Schema}
use Rattle.gql_schema_types.specs.declared.types.ExtendedType.{ExtendedType}
use Rattle.gql_schema_types.specs.declared.types.ExtendedType.TheVariants as type
use Rattle.gql_schema_types.specs.declared.types.InputObjectType.{InputObjectType}
use Rattle.gql_parser.specs.SchemaText.{SchemaText, AreDefinitions, all_of, its_given}
use Rattle.gql_parser.proofs.Scalars.{scalar-scalar}
use Rattle.gql_coerce.specs.InputTypes.{as_input_object}
use Rattle.gql_valid_laws.specs.Inputs.{is_input, IsInputField, AreInputFields}
use Rattle.gql_parser.proofs.Kept.{back_empty, front_empty}
use Rattle.gql_valid_laws.proofs.Empty.{not_told, not_false, each_empty, of_entry}
use Rattle.gql_valid_laws.proofs.Fields.{IsUsers, OfType, OfSystem, of-types, of-definitions, of-built_in}
use Rattle.gql_valid_laws.proofs.SettledInputs.{AreThere, any-at, settled-there, before-settled}

abbrev is_scalar_type : Option ExtendedType → Bool
is_scalar_type (Some (type.Scalar it)) = true
is_scalar_type _ = false

abbrev HasScalars : List ExtendedType → Type 0
HasScalars types = (name : List ℕ) → is_built_in_scalar name ≡ true → is_scalar_type (type_called name types) ≡ true

-- ---- the rules find nothing

no_type_fault : (schema : Schema) → AreSchemaFaults schema [] → types_faults schema ≡ []
no_type_fault schema holds =
    let before = schema_definition_faults schema ++ directive_definitions_faults schema in
    let of_chains : ((parts_faults schema ++ holds.interfaces) ++ holds.input_objects) ++ holds.directives ≡ [] = sym holds.whole in
    let of_parts : parts_faults schema ≡ [] =
    front_empty (parts_faults schema) holds.interfaces (front_empty (parts_faults schema ++ holds.interfaces) holds.input_objects
    (front_empty ((parts_faults schema ++ holds.interfaces) ++ holds.input_objects) holds.directives of_chains)) in
    back_empty before (types_faults schema) (front_empty (before ++ types_faults schema) (interfaces_faults schema.types) of_parts)

module _ (schema : Schema) (holds : AreSchemaFaults schema []) (fields : Each OfType schema.types) (scalars : HasScalars schema.types) where
  -- ---- a field of an input object

  single : (o : Option ExtendedType) (b : Bool) → (is_some o || b) ≡ true → option_map_or is_composite o false ≡ false → (b ≡ true → is_scalar_type o ≡ true)
      → (t : ExtendedType) × ((o ≡ Some t) × (is_composite t ≡ false))
  single (Some t) b known other scalar = (t, (refl, other))
  single None b known other scalar = let e : false ≡ true = scalar known in absurd cc

  named-type : (field : InputValueDefinition) → is_written field.location ≡ true → input_field_faults schema field ≡ []
      → (t : ExtendedType) × ((type_called (named_type field.ty).text schema.types ≡ Some t) × (is_composite t ≡ false))
  named-type field written none =
      let types = schema.types in
      let name = named_type field.ty in
      let told = input_value_faults schema at.InputFieldDefinition field in
      let all : told ≡ [] = sym (ap (λ (b : Bool). if b then told else []) written) ∙ none in
      let T = value_type_faults schema field in
      let R = default_faults schema field ++ directive_faults TypesAndScalars schema.types at.InputFieldDefinition schema.directive_definitions field.directives in
      let of_type : T ≡ [] = front_empty T R (back_empty (reserved_name field.name) (T ++ R) all) in
      let undefined = not_told (not (is_known types name.text)) (name_fault UndefinedDefinition name) (front_empty (undefined_definition types name) (input_type types field) of_type) in
      let output = not_told (option_map_or is_composite (type_called name.text types) false) (fault InputType (field.name.text ∷ []) field.location None)
      (back_empty (undefined_definition types name) (input_type types field) of_type) in
      single (type_called name.text types) (is_built_in_scalar name.text) (not_false (is_known types name.text) undefined) output (scalars name.text)

  object-faults : (it : InputObjectType) → type_faults schema (type.InputObject it) ≡ [] → input_fields_faults schema it.fields ≡ []
  object-faults it none =
      let N = name_faults it.location it.name in
      let E = if_written it.location (empty_input_value_set it.name it.fields) in
      let D = directive_faults TypesAndScalars schema.types at.InputObject schema.directive_definitions it.directives in
      let F = input_fields_faults schema it.fields in
      let O = one_of_fields it in
      front_empty F O (back_empty D (F ++ O) (back_empty E (D ++ (F ++ O)) (back_empty N (E ++ (D ++ (F ++ O))) none)))

  -- an input object has another name than each built-in scalar
  module _ (name : List ℕ) (it : InputObjectType) (found : type_called name schema.types ≡ Some (type.InputObject it)) where
    apart : (n : List ℕ) → is_built_in_scalar n ≡ true → bytes_eq name n ≡ false
    apart n scalar = by_test (bytes_eq name n) refl
      where
        by_test : (b : Bool) → bytes_eq name n ≡ b → b ≡ false
        by_test false is = refl
        by_test true is =
            let same : name ≡ n = (bytes_eq-Decides name n).0 is in
            let e : false ≡ true = sym (ap is_scalar_type (sym (ap (λ k. type_called k schema.types) same) ∙ found)) ∙ scalars n scalar in
            absurd cc

    field-input : (field : InputValueDefinition) → IsUsers field → input_field_faults schema field ≡ [] → list_any (input_names (named_type field.ty).text) it.fields ≡ true
        → IsInputField (validated schema).types field
    field-input field user none named =
        let n = (named_type field.ty).text in
        let target = named-type field user.written none in
        let there : AreThere schema.directive_definitions name n it target.0 named (validated schema).types =
        settled-there schema.directive_definitions name n it target.0 named (apart (codes "Int") refl) (apart (codes "Float") refl) (apart (codes "ID") refl) schema.types
        (record { object = found; field = target.1.0 }) in
        record {
          typed =
              ap is_input there.field ∙ ap not target.1.1;
          constant = user.constant;
        }

    fields-input : All (IsInputField (validated schema).types) it.fields
    fields-input k d lt =
        let field = get_or it.fields k d in
        let each : Each IsUsers it.fields = of_entry type_name name OfType schema.types (type.InputObject it) (all-of OfType schema.types fields) found in
        let user = all-of IsUsers it.fields each k d lt in
        let nothing : type_faults schema (type.InputObject it) ≡ [] =
        of_entry type_name name (λ t. type_faults schema t ≡ []) schema.types (type.InputObject it) (each_empty (type_faults schema) schema.types (no_type_fault schema holds)) found in
        let none = each_empty (input_field_faults schema) it.fields (object-faults it nothing) k d lt in
        let n = (named_type field.ty).text in
        let same : bytes_eq n n ≡ true = (bytes_eq-Decides n n).1 refl in
        let names : input_names n field ≡ true = ap (λ b. b && bytes_eq n n) user.written ∙ same in
        field-input field user none (any-at (input_names n) it.fields k d lt names)

  object-of : (o : Option ExtendedType) (it : InputObjectType) → option_and_then as_input_object o ≡ Some it → o ≡ Some (type.InputObject it)
  object-of None it is = absurd cc
  object-of (Some (type.InputObject found)) it is = let same : found ≡ it = cc in ap (λ x. Some (type.InputObject x)) same
  object-of (Some (type.Scalar found)) it is = absurd cc
  object-of (Some (type.Object found)) it is = absurd cc
  object-of (Some (type.Interface found)) it is = absurd cc
  object-of (Some (type.Union found)) it is = absurd cc
  object-of (Some (type.Enum found)) it is = absurd cc

  pub by-rules : AreInputFields (validated schema).types
  by-rules name it is =
      fields-input name it
      (before-settled schema.directive_definitions name it schema.types (object-of (type_called name (validated schema).types) it is))

-- ---- a schema that a text means

abbrev pub ScalarsLaw : Type 0
ScalarsLaw = (built_in : BuiltIn) → IsBuiltIn built_in → list_all (is_scalar_of built_in) built_in_scalars ≡ true

abbrev pub NoInputsLaw : Type 0
NoInputsLaw = (built_in : BuiltIn) → IsBuiltIn built_in → list_any is_input_object built_in.types ≡ false

abbrev pub DefaultsLaw : Type 0
DefaultsLaw = (text : List ℕ) (file : FileId) (definitions : List Definition) → IsDocumentOf text file definitions → All (HasConstantDefaults file) definitions

module _ (text : List ℕ) (taken : Taken) (d : AreDefinitions text taken) where
  abbrev given : Document
  given = record { sources = its_file (its_given text); definitions = d.definitions }

  abbrev user : TypeSystem
  user = (all_of d.built_in given).user

  types-are : (built taken).types ≡ types (d.built_in.types ++ without_redefinitions d.built_in.types user.types) user.type_extensions
  types-are = ap (λ (t : Taken). (built t).types) d.all

  scalar-of : (n : List ℕ) → is_scalar_of d.built_in n ≡ true → is_scalar_type (type_called n (built taken).types) ≡ true
  scalar-of n scalar =
      let found = scalar-scalar user.type_extensions n d.built_in.types (without_redefinitions d.built_in.types user.types) scalar in
      ap (λ ts. is_scalar_type (type_called n ts)) types-are ∙ ap is_scalar_type found.1

  has-scalars : ScalarsLaw → HasScalars (built taken).types
  has-scalars law name known =
      let all = AllPass-from_list_all (is_scalar_of d.built_in) built_in_scalars (law d.built_in d.are_built_in) in
      by_name (codes "Int") _ known (all 0 [] (omega arith))
      (λ known. by_name (codes "Float") _ known (all 1 [] (omega arith))
      (λ known. by_name (codes "String") _ known (all 2 [] (omega arith))
      (λ known. by_name (codes "Boolean") (bytes_eq name (codes "ID")) known (all 3 [] (omega arith))
      (λ known. by_name (codes "ID") false (or-none (bytes_eq name (codes "ID")) known) (all 4 [] (omega arith)) (λ never. let e : false ≡ true = never in absurd cc)))))
    where
      or-none : (b : Bool) → b ≡ true → (b || false) ≡ true
      or-none true h = refl
      or-none false h = h

      by_name : (n : List ℕ) (rest : Bool) → (bytes_eq name n || rest) ≡ true → is_scalar_of d.built_in n ≡ true → (rest ≡ true → is_scalar_type (type_called name (built taken).types) ≡ true)
          → is_scalar_type (type_called name (built taken).types) ≡ true
      by_name n rest known scalar later = by_test (bytes_eq name n) refl known
        where
          by_test : (b : Bool) → bytes_eq name n ≡ b → (b || rest) ≡ true → is_scalar_type (type_called name (built taken).types) ≡ true
          by_test true is known = ap (λ k. is_scalar_type (type_called k (built taken).types)) ((bytes_eq-Decides name n).0 is) ∙ scalar-of n scalar
          by_test false is known = later known

  has-fields : NoInputsLaw → DefaultsLaw → Each OfType (built taken).types
  has-fields none law =
      let system : OfSystem user =
      of-definitions (its_given text).file refl d.definitions no_definitions (record { types = tt; extensions = tt }) (law text (its_given text).file d.definitions d.mean) in
      subst (Each OfType) (sym types-are) (of-types d.built_in.types user.types user.type_extensions (of-built_in d.built_in.types (none d.built_in d.are_built_in)) system.types system.extensions)

pub by-text : ScalarsLaw → NoInputsLaw → DefaultsLaw → (text : List ℕ) (schema : Schema) → SchemaText text schema → AreInputFields schema.types
by-text scalars none defaults text schema h =
    subst (λ (s : Schema). AreInputFields s.types) (sym h.settled)
    (by-rules (built h.taken) h.holds (has-fields text h.taken h.definitions none defaults) (has-scalars text h.taken h.definitions scalars))

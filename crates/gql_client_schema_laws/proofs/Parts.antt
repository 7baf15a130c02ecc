-- Definitions whose parts have distinct names: nothing is wrong with them, and they say what their types say.
use Rattle.std.proofs.Common.{◌≡◌, ℕ, Option, List, [], ◌∷◌, ◌++◌, map, refl, sym, ap, ◌∙◌, subst, rules}
use Rattle.std.specs.List.{IsDistinct, AllByRecursion, flat_map}
use Rattle.std.specs.Str.{bytes_eq}
use Rattle.gql_ast_base.specs.Names.{Named}
use Rattle.gql_ast_base.specs.TypeParts.{named_type}
use Rattle.gql_ast_base.specs.declared.type_ref.TypeRef.{TypeRef, the_lemmas}
use Rattle.gql_ast_base.specs.declared.type_ref.TypeRef.TheVariants as ref
use Rattle.gql_ast_laws.specs.Printed.{from_nowhere}
use Rattle.gql_ast_base.specs.declared.value.Value.{Value}
use Rattle.gql_client_schema_laws.specs.Parts.{reference, references, shown_field, shown_input, shown_enum_value, said_definition, said_type}
use Rattle.gql_client_schema_laws.proofs.Names.{none_repeats, stay_joined, texts_shown}
use Rattle.gql_diag_messages.specs.declared.diagnostic_data.DiagnosticData.{DiagnosticData}
use Rattle.gql_diag_messages.specs.declared.rule.Rule.{Rule}
use Rattle.gql_schema_build.specs.Built.{built, part_faults}
use Rattle.gql_schema_build.specs.Faults.{collision_of, collisions, itself, names_once}
use Rattle.gql_schema_build.specs.PartNames.{field_name, input_name, value_name}
use Rattle.gql_schema_build.specs.declared.type_definition.TypeDefinition.{TypeDefinition}
use Rattle.gql_schema_build.specs.declared.type_definition.TypeDefinition.TheVariants as definition
use Rattle.gql_schema_types.proofs.Joins.{joined-distinct, none-distinct}
use Rattle.gql_schema_types.specs.Entries.{texts, joined}
use Rattle.gql_sdl.specs.declared.shown.ShownEnumValue.{ShownEnumValue}
use Rattle.gql_sdl.specs.declared.shown.ShownField.{ShownField}
use Rattle.gql_sdl.specs.declared.shown.ShownInput.{ShownInput}
use Rattle.gql_sdl.specs.declared.shown.ShownType.{ShownType}

abbrev field_text : ShownField → List ℕ
field_text field = field.name.text

abbrev input_text : ShownInput → List ℕ
input_text input = input.name.text

abbrev value_text : ShownEnumValue → List ℕ
value_text value = value.name.text

abbrev reference_text : TypeRef → List ℕ
reference_text ty = (named_type ty).text

-- of each kind of parts, those that are shown of a type have distinct names
pub record HasDistinctParts (ty : ShownType) : Type 0 where
  pub fields : IsDistinct bytes_eq (map field_text ty.fields)
  pub input_fields : IsDistinct bytes_eq (map input_text ty.input_fields)
  pub interfaces : IsDistinct bytes_eq (map reference_text ty.interfaces)
  pub possible_types : IsDistinct bytes_eq (map reference_text ty.possible_types)
  pub enum_values : IsDistinct bytes_eq (map value_text ty.enum_values)

no_texts : IsDistinct bytes_eq []
no_texts = none-distinct itself

module _ {X Y : Type 0} (own : X → Named) (shown : X → Y) (text : Y → List ℕ) (same : (x : X) → text (shown x) ≡ (own x).text) where
  as_shown : (xs : List X) → IsDistinct bytes_eq (texts own xs) → IsDistinct bytes_eq (map text (map shown xs))
  as_shown xs distinct = subst (IsDistinct bytes_eq) (texts_shown own shown text same xs) distinct

  as_said : (xs : List X) → IsDistinct bytes_eq (map text (map shown xs)) → IsDistinct bytes_eq (texts own xs)
  as_said xs distinct = subst (IsDistinct bytes_eq) (sym (texts_shown own shown text same xs)) distinct

  once : (xs : List X) → IsDistinct bytes_eq (map text (map shown (joined own [] xs)))
  once xs = as_shown (joined own [] xs) (joined-distinct own [] xs (none-distinct own))

pub referred : (name : Named) → reference_text (reference name) ≡ name.text
referred name =
    let is : named_type (ref.Named (from_nowhere name)) ≡ from_nowhere name = search (rules, the_lemmas) in
    ap (λ n. n.text) is

once_named : (names : List Named) → IsDistinct bytes_eq (map reference_text (references (names_once names)))
once_named names = once itself reference reference_text referred names

module _ (why : Option Value) where
  -- what is built has each name once
  pub built_distinct : (d : TypeDefinition) → HasDistinctParts (said_type why (built d))
  built_distinct (definition.Scalar d) =
      record { fields = no_texts; input_fields = no_texts; interfaces = no_texts; possible_types = no_texts; enum_values = no_texts }
  built_distinct (definition.Object d) = record {
    fields = once field_name (shown_field why) field_text (λ field. refl) d.fields;
    input_fields = no_texts;
    interfaces = once_named d.implements_interfaces;
    possible_types = no_texts;
    enum_values = no_texts;
  }
  built_distinct (definition.Interface d) = record {
    fields = once field_name (shown_field why) field_text (λ field. refl) d.fields;
    input_fields = no_texts;
    interfaces = once_named d.implements_interfaces;
    possible_types = no_texts;
    enum_values = no_texts;
  }
  built_distinct (definition.Union d) = record {
    fields = no_texts;
    input_fields = no_texts;
    interfaces = no_texts;
    possible_types = once_named d.members;
    enum_values = no_texts;
  }
  built_distinct (definition.Enum d) = record {
    fields = no_texts;
    input_fields = no_texts;
    interfaces = no_texts;
    possible_types = no_texts;
    enum_values = once value_name (shown_enum_value why) value_text (λ value. refl) d.values;
  }
  built_distinct (definition.InputObject d) = record {
    fields = no_texts;
    input_fields = once input_name (shown_input why) input_text (λ input. refl) d.fields;
    interfaces = no_texts;
    possible_types = no_texts;
    enum_values = no_texts;
  }

  names_distinct : (names : List Named) → IsDistinct bytes_eq (map reference_text (references names)) → IsDistinct bytes_eq (texts itself names)
  names_distinct names distinct = as_said itself reference reference_text referred names distinct

  -- ---- a definition that says parts of distinct names
  told_once : {X : Type 0} (own : X → Named) (rule : Rule) (owner : List ℕ) (xs : List X) → IsDistinct bytes_eq (texts own xs) → collisions own rule owner xs ≡ []
  told_once own rule owner xs distinct = ap (map (collision_of own rule owner)) (none_repeats own [] xs distinct)

  both_empty : (xs ys : List DiagnosticData) → xs ≡ [] → ys ≡ [] → xs ++ ys ≡ []
  both_empty xs ys one two = ap (λ l. l ++ ys) one ∙ two

  pub faultless : (d : TypeDefinition) → HasDistinctParts (said_definition why d) → part_faults d ≡ []
  faultless (definition.Scalar d) parts = refl
  faultless (definition.Object d) parts =
      both_empty _ _ (told_once itself _ d.name.text d.implements_interfaces (names_distinct d.implements_interfaces parts.interfaces))
      (told_once field_name _ d.name.text d.fields (as_said field_name (shown_field why) field_text (λ field. refl) d.fields parts.fields))
  faultless (definition.Interface d) parts =
      both_empty _ _ (told_once itself _ d.name.text d.implements_interfaces (names_distinct d.implements_interfaces parts.interfaces))
      (told_once field_name _ d.name.text d.fields (as_said field_name (shown_field why) field_text (λ field. refl) d.fields parts.fields))
  faultless (definition.Union d) parts = told_once itself _ d.name.text d.members (names_distinct d.members parts.possible_types)
  faultless (definition.Enum d) parts =
      told_once value_name _ d.name.text d.values (as_said value_name (shown_enum_value why) value_text (λ value. refl) d.values parts.enum_values)
  faultless (definition.InputObject d) parts =
      told_once input_name _ d.name.text d.fields (as_said input_name (shown_input why) input_text (λ input. refl) d.fields parts.input_fields)

  pub said_built : (d : TypeDefinition) → HasDistinctParts (said_definition why d) → said_type why (built d) ≡ said_definition why d
  said_built (definition.Scalar d) parts = refl
  said_built (definition.Object d) parts =
      let same_fields : joined field_name [] d.fields ≡ d.fields =
      stay_joined field_name [] d.fields (as_said field_name (shown_field why) field_text (λ field. refl) d.fields parts.fields) in
      let same_names : names_once d.implements_interfaces ≡ d.implements_interfaces =
      stay_joined itself [] d.implements_interfaces (names_distinct d.implements_interfaces parts.interfaces) in
      λ i. record (said_definition why (definition.Object d)) { fields = map (shown_field why) (same_fields i); interfaces = references (same_names i) }
  said_built (definition.Interface d) parts =
      let same_fields : joined field_name [] d.fields ≡ d.fields =
      stay_joined field_name [] d.fields (as_said field_name (shown_field why) field_text (λ field. refl) d.fields parts.fields) in
      let same_names : names_once d.implements_interfaces ≡ d.implements_interfaces =
      stay_joined itself [] d.implements_interfaces (names_distinct d.implements_interfaces parts.interfaces) in
      λ i. record (said_definition why (definition.Interface d)) { fields = map (shown_field why) (same_fields i); interfaces = references (same_names i) }
  said_built (definition.Union d) parts =
      let same_names : names_once d.members ≡ d.members = stay_joined itself [] d.members (names_distinct d.members parts.possible_types) in
      λ i. record (said_definition why (definition.Union d)) { possible_types = references (same_names i) }
  said_built (definition.Enum d) parts =
      let same_values : joined value_name [] d.values ≡ d.values =
      stay_joined value_name [] d.values (as_said value_name (shown_enum_value why) value_text (λ value. refl) d.values parts.enum_values) in
      λ i. record (said_definition why (definition.Enum d)) { enum_values = map (shown_enum_value why) (same_values i) }
  said_built (definition.InputObject d) parts =
      let same_fields : joined input_name [] d.fields ≡ d.fields =
      stay_joined input_name [] d.fields (as_said input_name (shown_input why) input_text (λ input. refl) d.fields parts.input_fields) in
      λ i. record (said_definition why (definition.InputObject d)) { input_fields = map (shown_input why) (same_fields i) }

  -- ---- the same of lists
  pub all_built_distinct : (f : TypeDefinition → TypeDefinition) (ds : List TypeDefinition) → AllByRecursion HasDistinctParts (map (said_type why) (map (λ d. built (f d)) ds))
  all_built_distinct f [] = tt
  all_built_distinct f (d ∷ ds) = (built_distinct (f d), all_built_distinct f ds)

  pub all_faultless : (ds : List TypeDefinition) → AllByRecursion HasDistinctParts (map (said_definition why) ds) → flat_map part_faults ds ≡ []
  all_faultless [] parts = refl
  all_faultless (d ∷ ds) parts = both_empty (part_faults d) (flat_map part_faults ds) (faultless d parts.0) (all_faultless ds parts.1)

  pub all_said_built : (ds : List TypeDefinition) → AllByRecursion HasDistinctParts (map (said_definition why) ds)
      → map (said_type why) (map built ds) ≡ map (said_definition why) ds
  all_said_built [] parts = refl
  all_said_built (d ∷ ds) parts = λ i. said_built d parts.0 i ∷ all_said_built ds parts.1 i

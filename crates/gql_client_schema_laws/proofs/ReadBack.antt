-- An answer that says what is shown of a schema is read as that.
use Rattle.std.proofs.Common.{◌≡◌, ℕ, Bool, true, false, Option, Some, None, List, [], ◌∷◌, refl, sym, subst}
use Rattle.std.specs.Prelude.{codes}
use Rattle.std.specs.List.{AllByRecursion}
use Rattle.std.specs.Option.{option_map}
use Rattle.std.specs.Map.{lookup}
use Rattle.std.specs.Str.{bytes_eq}
use Rattle.gql_ast_base.specs.Names.{Named}
use Rattle.gql_ast_base.specs.declared.type_ref.TypeRef.{TypeRef}
use Rattle.gql_ast.specs.Schemas.{location_word, location_name}
use Rattle.gql_ast.specs.declared.schema_definition.DirectiveLocation.{DirectiveLocation}
use Rattle.gql_ast.specs.declared.schema_definition.DirectiveLocation.TheVariants as location
use Rattle.gql_sdl.specs.declared.shown.Deprecation.{Deprecation}
use Rattle.gql_sdl.specs.declared.shown.ShownDirective.{ShownDirective}
use Rattle.gql_sdl.specs.declared.shown.ShownEnumValue.{ShownEnumValue}
use Rattle.gql_sdl.specs.declared.shown.ShownField.{ShownField}
use Rattle.gql_sdl.specs.declared.shown.ShownInput.{ShownInput}
use Rattle.gql_sdl.specs.declared.shown.ShownSchema.{ShownSchema}
use Rattle.gql_sdl.specs.declared.shown.ShownType.{ShownType}
use Rattle.gql_sdl.specs.declared.shown.TypeKind.{TypeKind}
use Rattle.gql_sdl.specs.declared.shown.TypeKind.TheVariants as kind
use Rattle.jb_tree.specs.declared.value.Value.{Value}
use Rattle.jb_tree.specs.declared.value.Value.TheVariants as json
use Rattle.gql_client_schema_laws.specs.Answer as answer
use Rattle.gql_client_schema.specs.Constants.{IsConstant}
use Rattle.gql_client_schema.specs.Members.{Members, right, or_null, required, spared, read_text, read_truth, read_name, description_in, read_list, read_list_or_null}
use Rattle.gql_client_schema.specs.Parts.{deprecated_if, deprecation_by, reason_in, deprecation_parts, deprecation_in, spared_parts, deprecation_if_there, constant_of, read_constant}
use Rattle.gql_client_schema.specs.Parts.{input_parts, input_by, input_of, read_input, field_parts, field_by, field_of, read_field, enum_value_parts, enum_value_by, enum_value_of, read_enum_value}
use Rattle.gql_client_schema.specs.Parts.{truth_or, traits_parts, traits_by, traits_of, lists_parts, lists_by, lists_of, whole_type, type_of, read_type}
use Rattle.gql_client_schema.specs.Parts.{location_of, read_location, directive_parts, directive_by, directive_of, read_directive}
use Rattle.gql_client_schema.specs.Parts.{root_by, root_of, read_root, name_in, schema_parts, schema_by, schema_of, read_schema, data_by, data_of, read_data, schema_in, answer_of, read_answer}
use Rattle.gql_client_schema_laws.specs.Proper.{IsName, AreNamed, IsPrinted, IsShallow, IsProperInput, IsProperField, IsProperValue, IsProperDirective, IsProperType, IsProper, IsOneOfKind}
use Rattle.gql_client_schema.specs.Reading.{Reading, gives, and_then, both, Gives}
use Rattle.gql_client_schema.specs.References.{kind_of, read_kind, head_by, head_of, read_reference}
use Rattle.gql_client_schema_laws.proofs.Levels.{reference_gives}
use Rattle.gql_client_schema_laws.proofs.Steps.{chained, goes_on, required_then, text_then, named_then, then_gives, mapped_makes, both_give, required_gives, spared_gives, in_object_gives, object_is_not_null, text_gives, truth_gives, null_gives, some_gives, text_or_null_gives, name_gives, string_is_not_null, bool_is_not_null, list_gives, list_or_null_gives}

all_give : {X : Type 0} (P : X → Type 0) (rule : Value → Reading X) (value_of : X → Value) → ((x : X) → P x → Gives (rule (value_of x)) x)
    → (xs : List X) → AllByRecursion P xs → AllByRecursion (λ x. Gives (rule (value_of x)) x) xs
all_give P rule value_of h [] all = tt
all_give P rule value_of h (x ∷ xs) all = (h x all.0, all_give P rule value_of h xs all.1)

description_gives : (members : Members) (found : Option (List ℕ)) → lookup (bytes_eq (codes "description")) members ≡ Some (answer.text_or_null found)
    → Gives (description_in members) found
description_gives members found is =
    spared_gives (or_null read_text) None (codes "description") members (answer.text_or_null found) found is (text_or_null_gives found)

-- ---- deprecation

deprecated_again : (deprecation : Option Deprecation) → deprecated_if (answer.is_deprecated deprecation) (answer.reason_in deprecation) ≡ deprecation
deprecated_again None = refl
deprecated_again (Some deprecation) = refl

module _ (members : Members) (deprecation : Option Deprecation)
    (is : lookup (bytes_eq (codes "isDeprecated")) members ≡ Some (json.Bool (answer.is_deprecated deprecation)))
    (reason : lookup (bytes_eq (codes "deprecationReason")) members ≡ Some (answer.text_or_null (answer.reason_in deprecation))) where
  abbrev truth : Bool
  truth = answer.is_deprecated deprecation

  abbrev why : Option (List ℕ)
  why = answer.reason_in deprecation

  reason_gives : Gives (reason_in members) why
  reason_gives = spared_gives (or_null read_text) None (codes "deprecationReason") members (answer.text_or_null why) why reason (text_or_null_gives why)

  deprecation_gives : Gives (deprecation_in members) deprecation
  deprecation_gives =
      mapped_makes deprecation_by (deprecation_parts members) (truth, why) deprecation (deprecated_again deprecation)
      (both_give (required read_truth (codes "isDeprecated") members) (reason_in members) truth why
      (required_gives read_truth (codes "isDeprecated") members (json.Bool truth) truth is (truth_gives truth)) reason_gives)

  deprecation_there_gives : Gives (deprecation_if_there members) deprecation
  deprecation_there_gives =
      mapped_makes deprecation_by (spared_parts members) (truth, why) deprecation (deprecated_again deprecation)
      (both_give (spared read_truth false (codes "isDeprecated") members) (reason_in members) truth why
      (spared_gives read_truth false (codes "isDeprecated") members (json.Bool truth) truth is (truth_gives truth)) reason_gives)

-- ---- defaults

printed_gives : (text : List ℕ) → IsConstant text text → Gives (read_constant (json.String text)) text
printed_gives text constant = then_gives constant_of (read_text (json.String text)) text text (text_gives text) (text, constant, refl)

default_gives : (found : Option (List ℕ)) → IsPrinted found → Gives (or_null read_constant (answer.text_or_null found)) found
default_gives None printed = null_gives read_constant
default_gives (Some text) printed = some_gives read_constant (json.String text) text (string_is_not_null text) (printed_gives text printed)

module _ (types : List ShownType) where
  input_gives : (input : ShownInput) → IsProperInput input → Gives (read_input (answer.input_value types input)) input
  input_gives input proper =
      let members : Members =
      (codes "name", json.String input.name.text) ∷ (codes "description", answer.text_or_null input.description) ∷ (codes "type", answer.reference_value types input.ty)
      ∷ (codes "defaultValue", answer.text_or_null input.default_value) ∷ answer.deprecation_pairs input.deprecation in
      in_object_gives input_of members input
      (mapped_makes input_by (input_parts members) (input.name, (input.description, (input.ty, (input.default_value, input.deprecation)))) input refl
      (both_give (required read_name (codes "name") members) _ input.name _
      (required_gives read_name (codes "name") members (json.String input.name.text) input.name refl (name_gives input.name proper.name))
      (both_give (description_in members) _ input.description _ (description_gives members input.description refl)
      (both_give (required read_reference (codes "type") members) _ input.ty _
      (required_gives read_reference (codes "type") members (answer.reference_value types input.ty) input.ty refl (reference_gives types input.ty proper.ty))
      (both_give (required (or_null read_constant) (codes "defaultValue") members) (deprecation_if_there members) input.default_value input.deprecation
      (required_gives (or_null read_constant) (codes "defaultValue") members (answer.text_or_null input.default_value) input.default_value refl
      (default_gives input.default_value proper.default))
      (deprecation_there_gives members input.deprecation refl refl))))))

  inputs_give : (inputs : List ShownInput) → AllByRecursion IsProperInput inputs
      → AllByRecursion (λ input. Gives (read_input (answer.input_value types input)) input) inputs
  inputs_give = all_give IsProperInput read_input (answer.input_value types) input_gives

  field_gives : (field : ShownField) → IsProperField field → Gives (read_field (answer.field_value types field)) field
  field_gives field proper =
      let members : Members =
      (codes "name", json.String field.name.text) ∷ (codes "description", answer.text_or_null field.description)
      ∷ (codes "args", answer.list_value (answer.input_value types) field.arguments) ∷ (codes "type", answer.reference_value types field.ty)
      ∷ answer.deprecation_pairs field.deprecation in
      in_object_gives field_of members field
      (mapped_makes field_by (field_parts members) (field.name, (field.description, (field.arguments, (field.ty, field.deprecation)))) field refl
      (both_give (required read_name (codes "name") members) _ field.name _
      (required_gives read_name (codes "name") members (json.String field.name.text) field.name refl (name_gives field.name proper.name))
      (both_give (description_in members) _ field.description _ (description_gives members field.description refl)
      (both_give (required (read_list read_input) (codes "args") members) _ field.arguments _
      (required_gives (read_list read_input) (codes "args") members (answer.list_value (answer.input_value types) field.arguments) field.arguments refl
      (list_gives read_input (answer.input_value types) field.arguments (inputs_give field.arguments proper.arguments)))
      (both_give (required read_reference (codes "type") members) (deprecation_in members) field.ty field.deprecation
      (required_gives read_reference (codes "type") members (answer.reference_value types field.ty) field.ty refl (reference_gives types field.ty proper.ty))
      (deprecation_gives members field.deprecation refl refl))))))

  value_gives : (value : ShownEnumValue) → IsProperValue value → Gives (read_enum_value (answer.enum_value value)) value
  value_gives value proper =
      let members : Members =
      (codes "name", json.String value.name.text) ∷ (codes "description", answer.text_or_null value.description)
      ∷ answer.deprecation_pairs value.deprecation in
      in_object_gives enum_value_of members value
      (mapped_makes enum_value_by (enum_value_parts members) (value.name, (value.description, value.deprecation)) value refl
      (both_give (required read_name (codes "name") members) _ value.name _
      (required_gives read_name (codes "name") members (json.String value.name.text) value.name refl (name_gives value.name proper))
      (both_give (description_in members) (deprecation_in members) value.description value.deprecation (description_gives members value.description refl)
      (deprecation_gives members value.deprecation refl refl))))

  -- ---- directives

  location_read : (at : DirectiveLocation) → location_word (location_name at) ≡ Some at
  unfolding location_word
  location_read location.Query = refl
  location_read location.Mutation = refl
  location_read location.Subscription = refl
  location_read location.Field = refl
  location_read location.FragmentDefinition = refl
  location_read location.FragmentSpread = refl
  location_read location.InlineFragment = refl
  location_read location.VariableDefinition = refl
  location_read location.Schema = refl
  location_read location.Scalar = refl
  location_read location.Object = refl
  location_read location.FieldDefinition = refl
  location_read location.ArgumentDefinition = refl
  location_read location.Interface = refl
  location_read location.Union = refl
  location_read location.Enum = refl
  location_read location.EnumValue = refl
  location_read location.InputObject = refl
  location_read location.InputFieldDefinition = refl

  location_gives : (at : DirectiveLocation) → Unit {0} → Gives (read_location (answer.location_value at)) at
  location_gives at any =
      then_gives location_of (read_text (json.String (location_name at))) (location_name at) at (text_gives (location_name at))
      (subst (λ o. Gives (right o) at) (sym (location_read at)) refl)

  locations_give : (at : List DirectiveLocation) → AllByRecursion (λ l. Gives (read_location (answer.location_value l)) l) at
  locations_give [] = tt
  locations_give (l ∷ ls) = (location_gives l tt, locations_give ls)

  directive_gives : (directive : ShownDirective) → IsProperDirective directive → Gives (read_directive (answer.directive_value types directive)) directive
  directive_gives directive proper =
      let members : Members =
      (codes "name", json.String directive.name.text) ∷ (codes "description", answer.text_or_null directive.description)
      ∷ (codes "isRepeatable", json.Bool directive.is_repeatable) ∷ (codes "locations", answer.list_value (answer.location_value) directive.locations)
      ∷ (codes "args", answer.list_value (answer.input_value types) directive.arguments) ∷ [] in
      in_object_gives directive_of members directive
      (mapped_makes directive_by (directive_parts members) (directive.name, (directive.description, (directive.is_repeatable, (directive.locations, directive.arguments)))) directive refl
      (both_give (required read_name (codes "name") members) _ directive.name _
      (required_gives read_name (codes "name") members (json.String directive.name.text) directive.name refl (name_gives directive.name proper.name))
      (both_give (description_in members) _ directive.description _ (description_gives members directive.description refl)
      (both_give (spared read_truth false (codes "isRepeatable") members) _ directive.is_repeatable _
      (spared_gives read_truth false (codes "isRepeatable") members (json.Bool directive.is_repeatable) directive.is_repeatable refl (truth_gives directive.is_repeatable))
      (both_give (required (read_list read_location) (codes "locations") members) (required (read_list read_input) (codes "args") members) directive.locations directive.arguments
      (required_gives (read_list read_location) (codes "locations") members (answer.list_value (answer.location_value) directive.locations) directive.locations refl
      (list_gives read_location (answer.location_value) directive.locations (locations_give directive.locations)))
      (required_gives (read_list read_input) (codes "args") members (answer.list_value (answer.input_value types) directive.arguments) directive.arguments refl
      (list_gives read_input (answer.input_value types) directive.arguments (inputs_give directive.arguments proper.arguments))))))))

  -- ---- types

  one_of_gives : (has one_of : Bool) → IsOneOfKind has one_of → (found : Option Bool) × (truth_or found ≡ one_of) × Gives (or_null read_truth (answer.truth_if has one_of)) found
  one_of_gives true one_of of_kind = (Some one_of, refl, some_gives read_truth (json.Bool one_of) one_of (bool_is_not_null one_of) (truth_gives one_of))
  one_of_gives false one_of of_kind = (None, sym of_kind, null_gives read_truth)

  shallow_gives : (refs : List TypeRef) → AllByRecursion IsShallow refs → AllByRecursion (λ ty. Gives (read_reference (answer.reference_value types ty)) ty) refs
  shallow_gives = all_give IsShallow read_reference (answer.reference_value types) (reference_gives types)

  whole_gives : (members : Members) (ty : ShownType) (found : Option Bool) → truth_or found ≡ ty.is_one_of → IsName ty.name
      → lookup (bytes_eq (codes "name")) members ≡ Some (json.String ty.name.text)
      → Gives (and_then (kind_of (answer.kind_text ty.kind)) (λ k. and_then (head_by k members)
      (λ a. whole_type (
        a,
        (
          traits_by (ty.description, (ty.specified_by_url, found)),
          lists_by (ty.fields, (ty.input_fields, (ty.interfaces, (ty.possible_types, ty.enum_values)))),
        ),
      ))))
      ty
  whole_gives members ty found one_of named is = by_kind ty.kind (λ i. record ty { is_one_of = one_of i })
    where
      by_kind : (k : TypeKind) → record ty { kind = k; is_one_of = truth_or found } ≡ ty
          → Gives (and_then (kind_of (answer.kind_text k)) (λ q. and_then (head_by q members)
          (λ a. whole_type (
            a,
            (
              traits_by (ty.description, (ty.specified_by_url, found)),
              lists_by (ty.fields, (ty.input_fields, (ty.interfaces, (ty.possible_types, ty.enum_values)))),
            ),
          ))))
          ty
      by_kind kind.Scalar same = named_then _ _ members ty.name ty named is same
      by_kind kind.Object same = named_then _ _ members ty.name ty named is same
      by_kind kind.Interface same = named_then _ _ members ty.name ty named is same
      by_kind kind.Union same = named_then _ _ members ty.name ty named is same
      by_kind kind.Enum same = named_then _ _ members ty.name ty named is same
      by_kind kind.InputObject same = named_then _ _ members ty.name ty named is same

  type_gives : (ty : ShownType) → IsProperType ty → Gives (read_type (answer.type_value types ty)) ty
  type_gives ty proper =
      let members : Members =
      (codes "kind", json.String (answer.kind_text ty.kind)) ∷ (codes "name", json.String ty.name.text) ∷ (codes "description", answer.text_or_null ty.description)
      ∷ (codes "specifiedByURL", answer.text_or_null ty.specified_by_url) ∷ (codes "isOneOf", answer.truth_if (answer.is_input_object ty.kind) ty.is_one_of)
      ∷ (codes "fields", answer.list_if (answer.has_fields ty.kind) (answer.field_value types) ty.fields)
      ∷ (codes "inputFields", answer.list_if (answer.is_input_object ty.kind) (answer.input_value types) ty.input_fields)
      ∷ (codes "interfaces", answer.list_if (answer.has_fields ty.kind) (answer.reference_value types) ty.interfaces)
      ∷ (codes "possibleTypes", answer.list_if (answer.has_possible_types ty.kind) (answer.reference_value types) ty.possible_types)
      ∷ (codes "enumValues", answer.list_if (answer.is_enum ty.kind) (answer.enum_value) ty.enum_values) ∷ [] in
      let one_of = one_of_gives (answer.is_input_object ty.kind) ty.is_one_of proper.one_of in
      let traits = traits_by (ty.description, (ty.specified_by_url, one_of.0)) in
      let lists = lists_by (ty.fields, (ty.input_fields, (ty.interfaces, (ty.possible_types, ty.enum_values)))) in
      let rest = both (traits_of members) (lists_of members) in
      let rest_gives : Gives rest (traits, lists) =
      both_give (traits_of members) (lists_of members) traits lists
      (mapped_makes traits_by (traits_parts members) (ty.description, (ty.specified_by_url, one_of.0))
      (traits_by (ty.description, (ty.specified_by_url, one_of.0))) refl
      (both_give (description_in members) _ ty.description _ (description_gives members ty.description refl)
      (both_give (spared (or_null read_text) None (codes "specifiedByURL") members) (spared (or_null read_truth) None (codes "isOneOf") members) ty.specified_by_url one_of.0
      (spared_gives (or_null read_text) None (codes "specifiedByURL") members (answer.text_or_null ty.specified_by_url) ty.specified_by_url refl
      (text_or_null_gives ty.specified_by_url))
      (spared_gives (or_null read_truth) None (codes "isOneOf") members (answer.truth_if (answer.is_input_object ty.kind) ty.is_one_of) one_of.0 refl one_of.2))))
      (mapped_makes lists_by (lists_parts members) (ty.fields, (ty.input_fields, (ty.interfaces, (ty.possible_types, ty.enum_values)))) lists refl
      (both_give (required (read_list_or_null read_field) (codes "fields") members) _ ty.fields _
      (required_gives (read_list_or_null read_field) (codes "fields") members _ ty.fields refl
      (list_or_null_gives read_field (answer.field_value types) (answer.has_fields ty.kind) ty.fields proper.fields_of_kind
      (all_give IsProperField read_field (answer.field_value types) field_gives ty.fields proper.fields)))
      (both_give (required (read_list_or_null read_input) (codes "inputFields") members) _ ty.input_fields _
      (required_gives (read_list_or_null read_input) (codes "inputFields") members _ ty.input_fields refl
      (list_or_null_gives read_input (answer.input_value types) (answer.is_input_object ty.kind) ty.input_fields proper.input_fields_of_kind
      (inputs_give ty.input_fields proper.input_fields)))
      (both_give (required (read_list_or_null read_reference) (codes "interfaces") members) _ ty.interfaces _
      (required_gives (read_list_or_null read_reference) (codes "interfaces") members _ ty.interfaces refl
      (list_or_null_gives read_reference (answer.reference_value types) (answer.has_fields ty.kind) ty.interfaces proper.interfaces_of_kind
      (shallow_gives ty.interfaces proper.interfaces)))
      (both_give (required (read_list_or_null read_reference) (codes "possibleTypes") members) (required (read_list_or_null read_enum_value) (codes "enumValues") members)
      ty.possible_types ty.enum_values
      (required_gives (read_list_or_null read_reference) (codes "possibleTypes") members _ ty.possible_types refl
      (list_or_null_gives read_reference (answer.reference_value types) (answer.has_possible_types ty.kind) ty.possible_types proper.possible_types_of_kind
      (shallow_gives ty.possible_types proper.possible_types)))
      (required_gives (read_list_or_null read_enum_value) (codes "enumValues") members _ ty.enum_values refl
      (list_or_null_gives read_enum_value (answer.enum_value) (answer.is_enum ty.kind) ty.enum_values proper.enum_values_of_kind
      (all_give IsProperValue read_enum_value (answer.enum_value) value_gives ty.enum_values proper.enum_values)))))))) in
      let text = answer.kind_text ty.kind in
      in_object_gives type_of members ty
      (chained (head_of members) (λ a. and_then rest (λ b. gives (a, b))) whole_type ty
      (chained (required read_kind (codes "kind") members) (λ k. head_by k members) (λ a. and_then (and_then rest (λ b. gives (a, b))) whole_type) ty
      (required_then read_kind (codes "kind") members (json.String text) (λ k. and_then (head_by k members) (λ a. and_then (and_then rest (λ b. gives (a, b))) whole_type)) ty refl
      (text_then kind_of (λ k. and_then (head_by k members) (λ a. and_then (and_then rest (λ b. gives (a, b))) whole_type)) text ty
      (goes_on (kind_of text) (λ k. and_then (head_by k members) (λ a. whole_type (a, (traits, lists))))
      (λ k. and_then (head_by k members) (λ a. and_then (and_then rest (λ b. gives (a, b))) whole_type)) ty
      (λ k. goes_on (head_by k members) (λ a. whole_type (a, (traits, lists))) (λ a. and_then (and_then rest (λ b. gives (a, b))) whole_type) ty
      (λ a last. chained rest (λ b. gives (a, b)) whole_type ty (then_gives (λ b. whole_type (a, b)) rest (traits, lists) ty rest_gives last)))
      (whole_gives members ty one_of.0 one_of.1 proper.name refl))))))

-- ---- the schema

root_gives : (name : Named) → IsName name → Gives (read_root (answer.root_value name)) (root_by name)
root_gives name named =
    let members : Members = (codes "name", json.String name.text) ∷ [] in
    in_object_gives root_of members (root_by name)
    (mapped_makes root_by (required read_name (codes "name") members) name (root_by name) refl
    (required_gives read_name (codes "name") members (json.String name.text) name refl (name_gives name named)))

named_again : (found : Option Named) → name_in (option_map root_by found) ≡ found
named_again None = refl
named_again (Some name) = refl

root_or_null_gives : (found : Option Named) → AreNamed found → Gives (or_null read_root (answer.root_or_null found)) (option_map root_by found)
root_or_null_gives None named = null_gives read_root
root_or_null_gives (Some name) named =
    some_gives read_root (answer.root_value name) (root_by name) (object_is_not_null ((codes "name", json.String name.text) ∷ [])) (root_gives name named)

module _ (shown : ShownSchema) (proper : IsProper shown) where
  schema_gives : Gives (read_schema (answer.schema_value shown)) shown
  schema_gives =
      let members : Members =
      (codes "description", answer.text_or_null shown.description) ∷ (codes "queryType", answer.root_value shown.query)
      ∷ (codes "mutationType", answer.root_or_null shown.mutation) ∷ (codes "subscriptionType", answer.root_or_null shown.subscription)
      ∷ (codes "types", answer.list_value (answer.type_value shown.types) shown.types)
      ∷ (codes "directives", answer.list_value (answer.directive_value shown.types) shown.directives) ∷ [] in
      let query = root_by shown.query in
      let mutation = option_map root_by shown.mutation in
      let subscription = option_map root_by shown.subscription in
      in_object_gives schema_of members shown
      (mapped_makes schema_by (schema_parts members)
      (shown.description, (query, (mutation, (subscription, (shown.types, shown.directives))))) shown
      (λ i. record shown { mutation = named_again shown.mutation i; subscription = named_again shown.subscription i })
      (both_give (description_in members) _ shown.description _ (description_gives members shown.description refl)
      (both_give (required read_root (codes "queryType") members) _ query _
      (required_gives read_root (codes "queryType") members (answer.root_value shown.query) query refl (root_gives shown.query proper.query))
      (both_give (required (or_null read_root) (codes "mutationType") members) _ mutation _
      (required_gives (or_null read_root) (codes "mutationType") members (answer.root_or_null shown.mutation) mutation refl (root_or_null_gives shown.mutation proper.mutation))
      (both_give (required (or_null read_root) (codes "subscriptionType") members) _ subscription _
      (required_gives (or_null read_root) (codes "subscriptionType") members (answer.root_or_null shown.subscription) subscription refl (root_or_null_gives shown.subscription proper.subscription))
      (both_give (required (read_list read_type) (codes "types") members) (required (read_list read_directive) (codes "directives") members) shown.types shown.directives
      (required_gives (read_list read_type) (codes "types") members (answer.list_value (answer.type_value shown.types) shown.types) shown.types refl
      (list_gives read_type (answer.type_value shown.types) shown.types
      (all_give IsProperType read_type (answer.type_value shown.types) (type_gives shown.types) shown.types proper.types)))
      (required_gives (read_list read_directive) (codes "directives") members (answer.list_value (answer.directive_value shown.types) shown.directives) shown.directives refl
      (list_gives read_directive (answer.directive_value shown.types) shown.directives
      (all_give IsProperDirective read_directive (answer.directive_value shown.types) (directive_gives shown.types) shown.directives proper.directives)))))))))

  data_gives : Gives (read_data (answer.data_value shown)) (data_by shown)
  data_gives =
      let members : Members = (codes "__schema", answer.schema_value shown) ∷ [] in
      in_object_gives data_of members (data_by shown)
      (mapped_makes data_by (required read_schema (codes "__schema") members) shown (data_by shown) refl
      (required_gives read_schema (codes "__schema") members (answer.schema_value shown) shown refl schema_gives))

  -- whatever else is beside the data
  pub answer_gives : (members : Members) → lookup (bytes_eq (codes "data")) members ≡ Some (answer.data_value shown)
      → Gives (read_answer (json.Object members)) shown
  answer_gives members is =
      in_object_gives answer_of members shown
      (mapped_makes schema_in (required read_data (codes "data") members) (data_by shown) shown refl
      (required_gives read_data (codes "data") members (answer.data_value shown) (data_by shown) is data_gives))

-- How an answer to the full query is read: the types of section 4.2 of GraphQL October 2021, with `isOneOf` of September 2025.
use Rattle.std.specs.Prelude.{ℕ, Bool, true, false, List, [], Option, Some, None, unwrap_or, if◌then◌else◌, codes}
use Rattle.jb_tree.specs.declared.value.Value.{Value}
use Rattle.gql_ast_base.specs.Names.{Named}
use Rattle.gql_ast_base.specs.declared.type_ref.TypeRef.{TypeRef}
use Rattle.gql_ast.specs.Schemas.{location_word}
use Rattle.gql_ast.specs.declared.schema_definition.DirectiveLocation.{DirectiveLocation}
use Rattle.gql_sdl.specs.declared.shown.Deprecation.{Deprecation}
use Rattle.gql_sdl.specs.declared.shown.ShownDirective.{ShownDirective}
use Rattle.gql_sdl.specs.declared.shown.ShownEnumValue.{ShownEnumValue}
use Rattle.gql_sdl.specs.declared.shown.ShownField.{ShownField}
use Rattle.gql_sdl.specs.declared.shown.ShownInput.{ShownInput}
use Rattle.gql_sdl.specs.declared.shown.ShownSchema.{ShownSchema}
use Rattle.gql_sdl.specs.declared.shown.ShownType.{ShownType}
use Rattle.gql_client_schema.specs.declared.kind.Head.{Head}
use Rattle.gql_client_schema.specs.declared.kind.Head.TheVariants as head
use Rattle.gql_client_schema.specs.declared.answer.Data.{Data}
use Rattle.gql_client_schema.specs.declared.read_schema.Root.{Root}
use Rattle.gql_client_schema.specs.declared.read_type.Lists.{Lists}
use Rattle.gql_client_schema.specs.declared.read_type.Traits.{Traits}
use Rattle.gql_client_schema.specs.Members.{Members, right, in_object, read_list, read_list_or_null, or_null, required, spared}
use Rattle.gql_client_schema.specs.Members.{read_text, read_truth, read_name, description_in}
use Rattle.gql_client_schema.specs.Reading.{Reading, gives, breaks, asks, and_then, mapped, both}
use Rattle.gql_client_schema.specs.References.{head_of, read_reference}

-- ---- deprecation

abbrev pub deprecated_if : Bool → Option (List ℕ) → Option Deprecation
deprecated_if true reason = Some (record { reason = reason })
deprecated_if false reason = None

abbrev pub deprecation_by : Bool × Option (List ℕ) → Option Deprecation
deprecation_by parts = deprecated_if parts.0 parts.1

abbrev pub reason_in : Members → Reading (Option (List ℕ))
reason_in = spared (or_null read_text) None (codes "deprecationReason")

abbrev pub deprecation_parts : Members → Reading (Bool × Option (List ℕ))
deprecation_parts members = both (required read_truth (codes "isDeprecated") members) (reason_in members)

abbrev pub deprecation_in : Members → Reading (Option Deprecation)
deprecation_in members = mapped deprecation_by (deprecation_parts members)

-- of an input value, where an absent `isDeprecated` counts as false
abbrev pub spared_parts : Members → Reading (Bool × Option (List ℕ))
spared_parts members = both (spared read_truth false (codes "isDeprecated") members) (reason_in members)

abbrev pub deprecation_if_there : Members → Reading (Option Deprecation)
deprecation_if_there members = mapped deprecation_by (spared_parts members)

-- ---- input values

abbrev pub constant_of : List ℕ → Reading (List ℕ)
constant_of text = asks text [] (λ printed. gives printed)

abbrev pub read_constant : Value → Reading (List ℕ)
read_constant value = and_then (read_text value) constant_of

abbrev pub input_parts : Members → Reading (Named × (Option (List ℕ) × (TypeRef × (Option (List ℕ) × Option Deprecation))))
input_parts members =
    both (required read_name (codes "name") members)
    (both (description_in members)
    (both (required read_reference (codes "type") members)
    (both (required (or_null read_constant) (codes "defaultValue") members)
    (deprecation_if_there members))))

abbrev pub input_by : Named × (Option (List ℕ) × (TypeRef × (Option (List ℕ) × Option Deprecation))) → ShownInput
input_by parts = record {
  name = parts.0;
  description = parts.1.0;
  ty = parts.1.1.0;
  default_value = parts.1.1.1.0;
  deprecation = parts.1.1.1.1;
}

abbrev pub input_of : Members → Reading ShownInput
input_of members = mapped input_by (input_parts members)

abbrev pub read_input : Value → Reading ShownInput
read_input = in_object input_of

-- ---- fields and enum values

abbrev pub field_parts : Members → Reading (Named × (Option (List ℕ) × (List ShownInput × (TypeRef × Option Deprecation))))
field_parts members =
    both (required read_name (codes "name") members)
    (both (description_in members)
    (both (required (read_list read_input) (codes "args") members)
    (both (required read_reference (codes "type") members)
    (deprecation_in members))))

abbrev pub field_by : Named × (Option (List ℕ) × (List ShownInput × (TypeRef × Option Deprecation))) → ShownField
field_by parts = record {
  name = parts.0;
  description = parts.1.0;
  arguments = parts.1.1.0;
  ty = parts.1.1.1.0;
  deprecation = parts.1.1.1.1;
}

abbrev pub field_of : Members → Reading ShownField
field_of members = mapped field_by (field_parts members)

abbrev pub read_field : Value → Reading ShownField
read_field = in_object field_of

abbrev pub enum_value_parts : Members → Reading (Named × (Option (List ℕ) × Option Deprecation))
enum_value_parts members = both (required read_name (codes "name") members) (both (description_in members) (deprecation_in members))

abbrev pub enum_value_by : Named × (Option (List ℕ) × Option Deprecation) → ShownEnumValue
enum_value_by parts = record { name = parts.0; description = parts.1.0; deprecation = parts.1.1 }

abbrev pub enum_value_of : Members → Reading ShownEnumValue
enum_value_of members = mapped enum_value_by (enum_value_parts members)

abbrev pub read_enum_value : Value → Reading ShownEnumValue
read_enum_value = in_object enum_value_of

-- ---- types

abbrev pub truth_or : Option Bool → Bool
truth_or found = unwrap_or found false

abbrev pub traits_parts : Members → Reading (Option (List ℕ) × (Option (List ℕ) × Option Bool))
traits_parts members =
    both (description_in members)
    (both (spared (or_null read_text) None (codes "specifiedByURL") members) (spared (or_null read_truth) None (codes "isOneOf") members))

abbrev pub traits_by : Option (List ℕ) × (Option (List ℕ) × Option Bool) → Traits
traits_by parts = record { description = parts.0; specified_by_url = parts.1.0; is_one_of = truth_or parts.1.1 }

abbrev pub traits_of : Members → Reading Traits
traits_of members = mapped traits_by (traits_parts members)

abbrev pub lists_parts : Members → Reading (List ShownField × (List ShownInput × (List TypeRef × (List TypeRef × List ShownEnumValue))))
lists_parts members =
    both (required (read_list_or_null read_field) (codes "fields") members)
    (both (required (read_list_or_null read_input) (codes "inputFields") members)
    (both (required (read_list_or_null read_reference) (codes "interfaces") members)
    (both (required (read_list_or_null read_reference) (codes "possibleTypes") members)
    (required (read_list_or_null read_enum_value) (codes "enumValues") members))))

abbrev pub lists_by : List ShownField × (List ShownInput × (List TypeRef × (List TypeRef × List ShownEnumValue))) → Lists
lists_by parts = record {
  fields = parts.0;
  input_fields = parts.1.0;
  interfaces = parts.1.1.0;
  possible_types = parts.1.1.1.0;
  enum_values = parts.1.1.1.1;
}

abbrev pub lists_of : Members → Reading Lists
lists_of members = mapped lists_by (lists_parts members)

-- a member of `types` is no wrapper
abbrev pub whole_type : Head × (Traits × Lists) → Reading ShownType
whole_type (head.Named kind name, parts) = gives (record {
  description = parts.0.description;
  kind = kind;
  name = name;
  specified_by_url = parts.0.specified_by_url;
  is_one_of = parts.0.is_one_of;
  fields = parts.1.fields;
  input_fields = parts.1.input_fields;
  interfaces = parts.1.interfaces;
  possible_types = parts.1.possible_types;
  enum_values = parts.1.enum_values;
})
whole_type (found, parts) = breaks []

abbrev pub type_parts : Members → Reading (Head × (Traits × Lists))
type_parts members = both (head_of members) (both (traits_of members) (lists_of members))

abbrev pub type_of : Members → Reading ShownType
type_of members = and_then (type_parts members) whole_type

abbrev pub read_type : Value → Reading ShownType
read_type = in_object type_of

-- ---- directives

abbrev pub location_of : List ℕ → Reading DirectiveLocation
location_of text = right (location_word text)

abbrev pub read_location : Value → Reading DirectiveLocation
read_location value = and_then (read_text value) location_of

abbrev pub directive_parts : Members → Reading (Named × (Option (List ℕ) × (Bool × (List DirectiveLocation × List ShownInput))))
directive_parts members =
    both (required read_name (codes "name") members)
    (both (description_in members)
    (both (spared read_truth false (codes "isRepeatable") members)
    (both (required (read_list read_location) (codes "locations") members)
    (required (read_list read_input) (codes "args") members))))

abbrev pub directive_by : Named × (Option (List ℕ) × (Bool × (List DirectiveLocation × List ShownInput))) → ShownDirective
directive_by parts = record {
  name = parts.0;
  description = parts.1.0;
  is_repeatable = parts.1.1.0;
  locations = parts.1.1.1.0;
  arguments = parts.1.1.1.1;
}

abbrev pub directive_of : Members → Reading ShownDirective
directive_of members = mapped directive_by (directive_parts members)

abbrev pub read_directive : Value → Reading ShownDirective
read_directive = in_object directive_of

-- ---- the schema

abbrev pub root_by : Named → Root
root_by name = record { name = name }

abbrev pub root_of : Members → Reading Root
root_of members = mapped root_by (required read_name (codes "name") members)

abbrev pub read_root : Value → Reading Root
read_root = in_object root_of

abbrev pub name_in : Option Root → Option Named
name_in None = None
name_in (Some root) = Some root.name

abbrev pub schema_parts : Members → Reading (Option (List ℕ) × (Root × (Option Root × (Option Root × (List ShownType × List ShownDirective)))))
schema_parts members =
    both (description_in members)
    (both (required read_root (codes "queryType") members)
    (both (required (or_null read_root) (codes "mutationType") members)
    (both (required (or_null read_root) (codes "subscriptionType") members)
    (both (required (read_list read_type) (codes "types") members)
    (required (read_list read_directive) (codes "directives") members)))))

abbrev pub schema_by : Option (List ℕ) × (Root × (Option Root × (Option Root × (List ShownType × List ShownDirective)))) → ShownSchema
schema_by parts = record {
  description = parts.0;
  query = parts.1.0.name;
  mutation = name_in parts.1.1.0;
  subscription = name_in parts.1.1.1.0;
  types = parts.1.1.1.1.0;
  directives = parts.1.1.1.1.1;
}

abbrev pub schema_of : Members → Reading ShownSchema
schema_of members = mapped schema_by (schema_parts members)

abbrev pub read_schema : Value → Reading ShownSchema
read_schema = in_object schema_of

abbrev pub data_by : ShownSchema → Data
data_by schema = record { schema = schema }

abbrev pub data_of : Members → Reading Data
data_of members = mapped data_by (required read_schema (codes "__schema") members)

abbrev pub read_data : Value → Reading Data
read_data = in_object data_of

abbrev pub schema_in : Data → ShownSchema
schema_in found = found.schema

abbrev pub answer_of : Members → Reading ShownSchema
answer_of members = mapped schema_in (required read_data (codes "data") members)

-- what an answer to the full query shows of a schema; further members are ignored
abbrev pub read_answer : Value → Reading ShownSchema
read_answer = in_object answer_of

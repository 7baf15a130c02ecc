-- What each object of introspection gives to the full query, by what is shown of it: section 4.2 of GraphQL October 2021.
use Rattle.std.specs.Prelude.{◌≡◌, ℕ, Bool, true, false, List, [], ◌∷◌, map, filter, Option, Some, is_some, codes}
use Rattle.gql_ast_base.specs.Names.{Named}
use Rattle.gql_ast_base.specs.declared.type_ref.TypeRef.{TypeRef}
use Rattle.gql_ast_base.specs.declared.value.Value.{Value}
use Rattle.gql_ast.specs.Schemas.{location_name}
use Rattle.gql_ast.specs.declared.field_definition.EnumValueDefinition.{EnumValueDefinition}
use Rattle.gql_ast.specs.declared.field_definition.FieldDefinition.{FieldDefinition}
use Rattle.gql_ast.specs.declared.field_definition.InputValueDefinition.{InputValueDefinition}
use Rattle.gql_ast.specs.declared.schema_definition.DirectiveDefinition.{DirectiveDefinition}
use Rattle.gql_client_schema_laws.specs.Answer.{reason_in, kind_text, has_fields, is_input_object, is_enum}
use Rattle.gql_client_schema_laws.specs.Parts.{reference, references, shown_input, shown_field, shown_enum_value, shown_directive, said_type}
use Rattle.gql_client_schema_laws.specs.Shown.{finished}
use Rattle.gql_introspection.specs.Answers.{null_leaf, text_leaf, truth_leaf, text_or_null, objects, texts}
use Rattle.gql_introspection.specs.Deprecation.{default_reason}
use Rattle.gql_introspection.specs.Meta.{Meta, schema_meta, type_def, directive_def, field_def, enum_value_def, input_value_def}
use Rattle.gql_introspection.specs.MetaMeaning.{meta_row}
use Rattle.gql_introspection.specs.NamedTypes.{named_types, root_type, type_meaning}
use Rattle.gql_introspection.specs.TypeDef.{is_implementing}
use Rattle.gql_resolvers.specs.Meaning.{Members}
use Rattle.gql_resolvers.specs.Resolved.{Meaning}
use Rattle.gql_schema_types.specs.Types.{type_name, interfaces_of, fields_of}
use Rattle.gql_schema_types.specs.declared.schema.Schema.{Schema}
use Rattle.gql_schema_types.specs.declared.types.ExtendedType.{ExtendedType}
use Rattle.gql_schema_types.specs.declared.types.ExtendedType.TheVariants as type
use Rattle.gql_schema_types.specs.declared.types.InterfaceType.{InterfaceType}
use Rattle.gql_schema_types.specs.declared.types.UnionType.{UnionType}
use Rattle.gql_sdl.specs.declared.shown.Deprecation.{Deprecation}
use Rattle.jb_tree.specs.declared.value.Value.TheVariants as json

-- the deprecated ones too, wherever that can be asked
abbrev pub asked : Members
asked = (codes "includeDeprecated", json.Bool true) ∷ []

-- what a field of an object gives
abbrev pub gives : Meta → List ℕ → Option (Meaning Meta)
gives object f = meta_row object f asked

pub record Describes (object : Meta) (name : Named) (description : Option (List ℕ)) : Type 0 where
  pub name_given : gives object (codes "name") ≡ Some (text_leaf name.text)
  pub description_given : gives object (codes "description") ≡ Some (text_or_null description)

pub record Deprecates (object : Meta) (deprecation : Option Deprecation) : Type 0 where
  pub deprecated_given : gives object (codes "isDeprecated") ≡ Some (truth_leaf (is_some deprecation))
  pub reason_given : gives object (codes "deprecationReason") ≡ Some (text_or_null (reason_in deprecation))

abbrev pub if_has : Bool → Meaning Meta → Meaning Meta
if_has true answer = answer
if_has false answer = null_leaf

-- ---- parts of types

abbrev pub inputs_of : ExtendedType → List InputValueDefinition
inputs_of (type.InputObject it) = it.fields
inputs_of _ = []

abbrev pub values_of : ExtendedType → List EnumValueDefinition
values_of (type.Enum it) = it.values
values_of _ = []

module _ (schema : Schema) where
  abbrev pub why : Option Value
  why = default_reason schema

  pub record GivesInput (value : InputValueDefinition) : Type 0 where
    pub described : Describes (input_value_def schema value) (shown_input why value).name (shown_input why value).description
    pub deprecated : Deprecates (input_value_def schema value) (shown_input why value).deprecation
    pub ty : gives (input_value_def schema value) (codes "type") ≡ Some (type_meaning schema value.ty)
    pub default : gives (input_value_def schema value) (codes "defaultValue") ≡ Some (text_or_null (shown_input why value).default_value)

  pub record GivesField (field : FieldDefinition) : Type 0 where
    pub described : Describes (field_def schema field) (shown_field why field).name (shown_field why field).description
    pub deprecated : Deprecates (field_def schema field) (shown_field why field).deprecation
    pub ty : gives (field_def schema field) (codes "type") ≡ Some (type_meaning schema field.ty)
    pub arguments : gives (field_def schema field) (codes "args") ≡ Some (objects (map (input_value_def schema) field.arguments))

  pub record GivesValue (value : EnumValueDefinition) : Type 0 where
    pub described : Describes (enum_value_def schema value) (shown_enum_value why value).name (shown_enum_value why value).description
    pub deprecated : Deprecates (enum_value_def schema value) (shown_enum_value why value).deprecation

  pub record GivesDirective (directive : DirectiveDefinition) : Type 0 where
    pub described : Describes (directive_def schema directive) (shown_directive why directive).name (shown_directive why directive).description
    pub repeatable : gives (directive_def schema directive) (codes "isRepeatable") ≡ Some (truth_leaf (shown_directive why directive).is_repeatable)
    pub locations : gives (directive_def schema directive) (codes "locations") ≡ Some (texts (map location_name (shown_directive why directive).locations))
    pub arguments : gives (directive_def schema directive) (codes "args") ≡ Some (objects (map (input_value_def schema) directive.arguments))

  -- a type with its parts, of which the shown ones are what is shown of these
  pub record GivesType (ty : ExtendedType) : Type 0 where
    pub kind : gives (type_def schema ty) (codes "kind") ≡ Some (text_leaf (kind_text (said_type why ty).kind))
    pub described : Describes (type_def schema ty) (said_type why ty).name (said_type why ty).description
    pub url : gives (type_def schema ty) (codes "specifiedByURL") ≡ Some (text_or_null (said_type why ty).specified_by_url)
    pub one_of : gives (type_def schema ty) (codes "isOneOf")
        ≡ Some (if_has (is_input_object (said_type why ty).kind) (truth_leaf (said_type why ty).is_one_of))
    pub fields : gives (type_def schema ty) (codes "fields")
        ≡ Some (if_has (has_fields (said_type why ty).kind) (objects (map (field_def schema) (fields_of ty))))
    pub shown_fields : (said_type why ty).fields ≡ map (shown_field why) (fields_of ty)
    pub input_fields : gives (type_def schema ty) (codes "inputFields")
        ≡ Some (if_has (is_input_object (said_type why ty).kind) (objects (map (input_value_def schema) (inputs_of ty))))
    pub shown_input_fields : (said_type why ty).input_fields ≡ map (shown_input why) (inputs_of ty)
    pub interfaces : gives (type_def schema ty) (codes "interfaces")
        ≡ Some (if_has (has_fields (said_type why ty).kind) (named_types schema (interfaces_of ty)))
    pub shown_interfaces : (said_type why ty).interfaces ≡ references (interfaces_of ty)
    pub enum_values : gives (type_def schema ty) (codes "enumValues")
        ≡ Some (if_has (is_enum (said_type why ty).kind) (objects (map (enum_value_def schema) (values_of ty))))
    pub shown_enum_values : (said_type why ty).enum_values ≡ map (shown_enum_value why) (values_of ty)

  abbrev pub its_reference : ExtendedType → TypeRef
  its_reference ty = reference (type_name ty)

  -- which types an interface can be
  pub record GivesPossible (it : InterfaceType) : Type 0 where
    pub given : gives (type_def schema (type.Interface it)) (codes "possibleTypes")
        ≡ Some (objects (map (type_def schema) (filter (is_implementing it.name.text) schema.types)))
    pub shown : (finished (map (said_type why) schema.types) (said_type why (type.Interface it))).possible_types
        ≡ map its_reference (filter (is_implementing it.name.text) schema.types)

  -- which types a union can be
  pub record GivesMembers (it : UnionType) : Type 0 where
    pub given : gives (type_def schema (type.Union it)) (codes "possibleTypes") ≡ Some (named_types schema it.members)
    pub shown : (said_type why (type.Union it)).possible_types ≡ references it.members

  pub record GivesSchema : Type 0 where
    pub description : gives (schema_meta schema) (codes "description") ≡ Some (text_or_null schema.schema_definition.description)
    pub query : gives (schema_meta schema) (codes "queryType") ≡ Some (root_type schema schema.schema_definition.query)
    pub mutation : gives (schema_meta schema) (codes "mutationType") ≡ Some (root_type schema schema.schema_definition.mutation)
    pub subscription : gives (schema_meta schema) (codes "subscriptionType") ≡ Some (root_type schema schema.schema_definition.subscription)
    pub types : gives (schema_meta schema) (codes "types") ≡ Some (objects (map (type_def schema) schema.types))
    pub directives : gives (schema_meta schema) (codes "directives") ≡ Some (objects (map (directive_def schema) schema.directive_definitions))

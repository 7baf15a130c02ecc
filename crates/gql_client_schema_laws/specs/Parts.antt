-- What definitions say that introspection shows, places and further uses of directives aside: section 4.2 of GraphQL October 2021.
use Rattle.std.specs.Prelude.{ℕ, Bool, false, List, [], map, Option, None, option_and_then, codes}
use Rattle.std.specs.List.{list_any}
use Rattle.std.specs.Option.{option_map, option_or}
use Rattle.std.specs.Str.{bytes_eq}
use Rattle.gql_ast.specs.ValueText.{value_text}
use Rattle.gql_ast_base.specs.Names.{Named}
use Rattle.gql_ast_base.specs.declared.directive.Directive.{Directive}
use Rattle.gql_ast_base.specs.declared.type_ref.TypeRef.{TypeRef}
use Rattle.gql_ast_base.specs.declared.type_ref.TypeRef.TheVariants as ref
use Rattle.gql_ast_base.specs.declared.value.Value.{Value}
use Rattle.gql_ast.specs.declared.field_definition.EnumValueDefinition.{EnumValueDefinition}
use Rattle.gql_ast.specs.declared.field_definition.FieldDefinition.{FieldDefinition}
use Rattle.gql_ast.specs.declared.field_definition.InputValueDefinition.{InputValueDefinition}
use Rattle.gql_ast.specs.declared.schema_definition.DirectiveDefinition.{DirectiveDefinition}
use Rattle.gql_ast_laws.specs.Printed.{from_nowhere, unplaced}
use Rattle.gql_introspection.specs.Deprecation.{deprecated, given_value, text_of, specified_by}
use Rattle.gql_schema_build.specs.declared.type_definition.TypeDefinition.{TypeDefinition}
use Rattle.gql_schema_build.specs.declared.type_definition.TypeDefinition.TheVariants as definition
use Rattle.gql_schema_types.specs.declared.types.ExtendedType.{ExtendedType}
use Rattle.gql_schema_types.specs.declared.types.ExtendedType.TheVariants as type
use Rattle.gql_sdl.specs.declared.shown.Deprecation.{Deprecation}
use Rattle.gql_sdl.specs.declared.shown.ShownDirective.{ShownDirective}
use Rattle.gql_sdl.specs.declared.shown.ShownEnumValue.{ShownEnumValue}
use Rattle.gql_sdl.specs.declared.shown.ShownField.{ShownField}
use Rattle.gql_sdl.specs.declared.shown.ShownInput.{ShownInput}
use Rattle.gql_sdl.specs.declared.shown.ShownType.{ShownType}
use Rattle.gql_sdl.specs.declared.shown.TypeKind.{TypeKind}
use Rattle.gql_sdl.specs.declared.shown.TypeKind.TheVariants.{Scalar, Object, Interface, Union, Enum, InputObject}

-- a type of the kind without any part
abbrev pub bare : TypeKind → Option (List ℕ) → Named → ShownType
bare kind description name = record {
  description = description;
  kind = kind;
  name = from_nowhere name;
  specified_by_url = None;
  is_one_of = false;
  fields = [];
  input_fields = [];
  interfaces = [];
  possible_types = [];
  enum_values = [];
}

-- references to types by their names
abbrev pub reference : Named → TypeRef
reference name = ref.Named (from_nowhere name)

abbrev pub references : List Named → List TypeRef
references names = map reference names

abbrev pub says_one_of : List Directive → Bool
says_one_of directives = list_any (λ (directive : Directive). bytes_eq (codes "oneOf") directive.name.text) directives

-- `why` is the reason that counts where `@deprecated` gives none
module _ (why : Option Value) where
  abbrev pub deprecation_by : Directive → Deprecation
  deprecation_by directive = record { reason = option_and_then text_of (option_or (given_value (codes "reason") directive) why) }

  abbrev pub deprecation_in : List Directive → Option Deprecation
  deprecation_in directives = option_map deprecation_by (deprecated directives)

  abbrev pub shown_input : InputValueDefinition → ShownInput
  shown_input value = record {
    description = value.description;
    name = from_nowhere value.name;
    ty = unplaced value.ty;
    default_value = option_map value_text value.default_value;
    deprecation = deprecation_in value.directives;
  }

  abbrev pub shown_field : FieldDefinition → ShownField
  shown_field field = record {
    description = field.description;
    name = from_nowhere field.name;
    arguments = map shown_input field.arguments;
    ty = unplaced field.ty;
    deprecation = deprecation_in field.directives;
  }

  abbrev pub shown_enum_value : EnumValueDefinition → ShownEnumValue
  shown_enum_value value = record {
    description = value.description;
    name = from_nowhere value.value;
    deprecation = deprecation_in value.directives;
  }

  abbrev pub shown_directive : DirectiveDefinition → ShownDirective
  shown_directive directive = record {
    description = directive.description;
    name = from_nowhere directive.name;
    is_repeatable = directive.repeatable;
    locations = directive.locations;
    arguments = map shown_input directive.arguments;
  }

  -- what a definition of a type says by itself: which types an interface can be, others say
  abbrev pub said_definition : TypeDefinition → ShownType
  said_definition (definition.Scalar d) = record (bare Scalar d.description d.name) { specified_by_url = specified_by d.directives }
  said_definition (definition.Object d) =
      record (bare Object d.description d.name) { fields = map shown_field d.fields; interfaces = references d.implements_interfaces }
  said_definition (definition.Interface d) =
      record (bare Interface d.description d.name) { fields = map shown_field d.fields; interfaces = references d.implements_interfaces }
  said_definition (definition.Union d) = record (bare Union d.description d.name) { possible_types = references d.members }
  said_definition (definition.Enum d) = record (bare Enum d.description d.name) { enum_values = map shown_enum_value d.values }
  said_definition (definition.InputObject d) =
      record (bare InputObject d.description d.name) { is_one_of = says_one_of d.directives; input_fields = map shown_input d.fields }

  -- the same of a type of a schema
  abbrev pub said_type : ExtendedType → ShownType
  said_type (type.Scalar t) = record (bare Scalar t.description t.name) { specified_by_url = specified_by t.directives }
  said_type (type.Object t) =
      record (bare Object t.description t.name) { fields = map shown_field t.fields; interfaces = references t.implements_interfaces }
  said_type (type.Interface t) =
      record (bare Interface t.description t.name) { fields = map shown_field t.fields; interfaces = references t.implements_interfaces }
  said_type (type.Union t) = record (bare Union t.description t.name) { possible_types = references t.members }
  said_type (type.Enum t) = record (bare Enum t.description t.name) { enum_values = map shown_enum_value t.values }
  said_type (type.InputObject t) =
      record (bare InputObject t.description t.name) { is_one_of = says_one_of t.directives; input_fields = map shown_input t.fields }

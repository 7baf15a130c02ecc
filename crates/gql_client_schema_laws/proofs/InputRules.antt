-- What is wrong with arguments and input fields, in a schema and in one that tells it again.
use Rattle.std.proofs.Common.{◌≡◌, true, not, Option, Some, None, List, [], refl, ap}
use Rattle.std.specs.Option.{option_map, option_map_or}
use Rattle.gql_ast_base.specs.Names.{Named, is_reserved}
use Rattle.gql_ast_base.specs.TypeParts.{named_type}
use Rattle.gql_ast_base.specs.declared.value.Value.{Value}
use Rattle.gql_ast.specs.declared.field_definition.InputValueDefinition.{InputValueDefinition}
use Rattle.gql_ast.specs.declared.schema_definition.DirectiveLocation.{DirectiveLocation}
use Rattle.gql_ast.specs.declared.schema_definition.DirectiveLocation.TheVariants as at
use Rattle.gql_diag_messages.specs.declared.rule.Rule.TheVariants as rule
use Rattle.gql_print_laws.specs.Literal.{literal_in}
use Rattle.gql_schema_rules_parts.specs.InputType.{input_type}
use Rattle.gql_schema_rules_parts.specs.InputValues.{default_faults, type_faults, input_value_faults, arguments_faults, input_field_faults, input_fields_faults}
use Rattle.gql_schema_rules_parts.specs.ReservedName.{reserved_name}
use Rattle.gql_schema_rules_parts.specs.UndefinedDefinition.{undefined_definition}
use Rattle.gql_rules_values.specs.Directives.{directive_faults}
use Rattle.gql_rules_values.specs.Faults.{name_fault}
use Rattle.gql_rules_values.specs.Known.{is_known}
use Rattle.gql_rules_values.specs.Literals.{literal_faults}
use Rattle.gql_rules_values.specs.UniqueInputValue.{definition_name, definition_place, unique_definitions}
use Rattle.gql_rules_values.specs.UnsupportedLocation.{allows}
use Rattle.gql_rules_values.specs.Written.{is_written}
use Rattle.gql_rules_values.specs.declared.known.Defined.TheVariants.{TypesAndScalars}
use Rattle.gql_client_schema_laws.specs.Pairs.{Paired}
use Rattle.gql_client_schema_laws.specs.Retold.{IsRetoldInput, IsRetoldInputField, IsRetoldType, IsRetold}
use Rattle.gql_client_schema_laws.specs.Standard.{HasStandard}
use Rattle.gql_client_schema_laws.proofs.Found.{known_alike, tested, composite_alike}
use Rattle.gql_client_schema_laws.proofs.Pairs.{joined_alike, only_alike, if_alike, flat_alike, pairs_weaker}
use Rattle.gql_client_schema_laws.proofs.Literals.{literal_alike}
use Rattle.gql_client_schema_laws.proofs.References.{name_alike}
use Rattle.gql_client_schema_laws.proofs.Seconds.{seconds_alike}
use Rattle.gql_client_schema_laws.proofs.Uses.{deprecation_right}
use Rattle.gql_schema_types.specs.Types.{is_composite}
use Rattle.gql_schema_types.specs.declared.schema.Schema.{Schema}
use Rattle.gql_schema_types.specs.declared.types.ExtendedType.{ExtendedType}

pub reserved_alike : (name fresh : Named) → name.text ≡ fresh.text → reserved_name name ≡ [] → reserved_name fresh ≡ []
reserved_alike name fresh same none =
    only_alike (is_reserved name.text) (is_reserved fresh.text) (name_fault rule.ReservedName name) (name_fault rule.ReservedName fresh) (ap is_reserved same) none

module _ (types others : List ExtendedType) (pairs : Paired IsRetoldType types others) where
  pub undefined_alike : (name fresh : Named) → name.text ≡ fresh.text → undefined_definition types name ≡ [] → undefined_definition others fresh ≡ []
  undefined_alike name fresh same none =
      only_alike (not (is_known types name.text)) (not (is_known others fresh.text)) (name_fault rule.UndefinedDefinition name) (name_fault rule.UndefinedDefinition fresh)
      (ap not (known_alike types others pairs name.text fresh.text same)) none

  input_type_alike : (input fresh : InputValueDefinition) → IsRetoldInput input fresh → input_type types input ≡ [] → input_type others fresh ≡ []
  input_type_alike input fresh same none =
      only_alike _ _ _ _ (tested types others pairs is_composite composite_alike (named_type input.ty).text (named_type fresh.ty).text (name_alike input.ty fresh.ty same.ty)) none

module _ (schema again : Schema) (retold : IsRetold schema again) (standard : HasStandard again) where
  default_alike : (input fresh : InputValueDefinition) → IsRetoldInput input fresh → default_faults schema input ≡ [] → default_faults again fresh ≡ []
  default_alike input fresh same none = by_value input.default_value fresh.default_value same.default_value none
    where
      by_value : (o p : Option Value) → option_map literal_in o ≡ option_map literal_in p
          → option_map_or (literal_faults TypesAndScalars schema.types (Some input.ty)) o [] ≡ [] → option_map_or (literal_faults TypesAndScalars again.types (Some fresh.ty)) p [] ≡ []
      by_value o None is none = refl
      by_value None (Some w) is none = absurd cc
      by_value (Some v) (Some w) is none =
          let e : literal_in v ≡ literal_in w = cc in
          literal_alike schema.types again.types retold.types v w e (Some input.ty) (Some fresh.ty) (ap Some same.ty) none

  type_alike : (input fresh : InputValueDefinition) → IsRetoldInput input fresh → type_faults schema input ≡ [] → type_faults again fresh ≡ []
  type_alike input fresh same =
      joined_alike (undefined_definition schema.types (named_type input.ty)) (input_type schema.types input) (undefined_definition again.types (named_type fresh.ty)) (input_type again.types fresh)
      (undefined_alike schema.types again.types retold.types (named_type input.ty) (named_type fresh.ty) (name_alike input.ty fresh.ty same.ty))
      (input_type_alike schema.types again.types retold.types input fresh same)

  uses_right : (place : DirectiveLocation) → allows standard.deprecated.definition.locations place ≡ true → (input fresh : InputValueDefinition) → IsRetoldInput input fresh
      → directive_faults TypesAndScalars again.types place again.directive_definitions fresh.directives ≡ []
  uses_right place allowed input fresh same =
      deprecation_right again.types standard.string again.directive_definitions _ standard.deprecated place allowed same.deprecation fresh.directives same.uses

  pub input_alike : (place : DirectiveLocation) → allows standard.deprecated.definition.locations place ≡ true → (input fresh : InputValueDefinition) → IsRetoldInput input fresh
      → input_value_faults schema place input ≡ [] → input_value_faults again place fresh ≡ []
  input_alike place allowed input fresh same =
      joined_alike (reserved_name input.name) _ (reserved_name fresh.name) _ (reserved_alike input.name fresh.name same.name)
      (joined_alike (type_faults schema input) _ (type_faults again fresh) _ (type_alike input fresh same)
      (joined_alike (default_faults schema input) _ (default_faults again fresh) _ (default_alike input fresh same) (λ none. uses_right place allowed input fresh same)))

  pub arguments_alike : (arguments fresh : List InputValueDefinition) → Paired IsRetoldInput arguments fresh → arguments_faults schema arguments ≡ [] → arguments_faults again fresh ≡ []
  arguments_alike arguments fresh pairs =
      joined_alike (unique_definitions arguments) _ (unique_definitions fresh) _
      (seconds_alike definition_name definition_name definition_place definition_place rule.UniqueInputValue rule.UniqueInputValue arguments fresh
      (pairs_weaker IsRetoldInput (λ x y. x.name.text ≡ y.name.text) (λ x y same. same.name) arguments fresh pairs))
      (flat_alike IsRetoldInput (input_value_faults schema at.ArgumentDefinition) (input_value_faults again at.ArgumentDefinition)
      (input_alike at.ArgumentDefinition standard.deprecated.stands.1.0) arguments fresh pairs)

  pub input_fields_alike : (fields fresh : List InputValueDefinition) → Paired IsRetoldInputField fields fresh → input_fields_faults schema fields ≡ [] → input_fields_faults again fresh ≡ []
  input_fields_alike =
      flat_alike IsRetoldInputField (input_field_faults schema) (input_field_faults again)
      (λ x y same. if_alike (is_written x.location) (is_written y.location) (input_value_faults schema at.InputFieldDefinition x) (input_value_faults again at.InputFieldDefinition y)
      same.place (input_alike at.InputFieldDefinition standard.deprecated.stands.1.1.0 x y same.input))

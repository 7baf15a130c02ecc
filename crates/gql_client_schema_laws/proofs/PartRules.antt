-- What is wrong with directives, with types and with their parts, in a schema and in one that tells it again.
use Rattle.std.proofs.Common.{◌≡◌, not, ◌&&◌, Option, List, [], ◌∷◌, ◌++◌, refl}
use Rattle.std.specs.List.{flat_map}
use Rattle.gql_source.specs.Span.{Span}
use Rattle.gql_ast_base.specs.Names.{Named}
use Rattle.gql_ast_base.specs.TypeParts.{named_type}
use Rattle.gql_ast.specs.declared.field_definition.EnumValueDefinition.{EnumValueDefinition}
use Rattle.gql_ast.specs.declared.field_definition.FieldDefinition.{FieldDefinition}
use Rattle.gql_ast.specs.declared.field_definition.InputValueDefinition.{InputValueDefinition}
use Rattle.gql_ast.specs.declared.schema_definition.DirectiveLocation.TheVariants as at
use Rattle.gql_diag_messages.specs.declared.rule.Rule.TheVariants as rule
use Rattle.gql_print_laws.specs.Literal.{literal_in}
use Rattle.gql_schema_rules_parts.specs.EmptyFieldSet.{empty_field_set}
use Rattle.gql_schema_rules_parts.specs.EmptyFieldSet as field_set
use Rattle.gql_schema_rules_parts.specs.EmptyInputValueSet.{empty_input_value_set}
use Rattle.gql_schema_rules_parts.specs.EmptyInputValueSet as input_set
use Rattle.gql_schema_rules_parts.specs.EmptyMemberSet.{empty_member_set}
use Rattle.gql_schema_rules_parts.specs.EmptyMemberSet as member_set
use Rattle.gql_schema_rules_parts.specs.EmptyValueSet.{empty_value_set}
use Rattle.gql_schema_rules_parts.specs.EmptyValueSet as value_set
use Rattle.gql_schema_rules_parts.specs.Fields as fields
use Rattle.gql_schema_rules_parts.specs.Fields.{written_field_faults, field_faults, fields_faults, value_faults, values_faults}
use Rattle.gql_schema_rules_parts.specs.InputValues.{arguments_faults, input_fields_faults}
use Rattle.gql_schema_rules_parts.specs.ObjectTypes.{is_another_kind}
use Rattle.gql_schema_rules_parts.specs.OneOfField.{may_be_left_out, one_of_field, one_of_fields}
use Rattle.gql_schema_rules_parts.specs.OutputType.{is_input_object, output_type}
use Rattle.gql_schema_rules_parts.specs.ReservedName.{reserved_name}
use Rattle.gql_schema_rules_parts.specs.SchemaRules.{directive_definition_faults, directive_definitions_faults}
use Rattle.gql_schema_rules_parts.specs.TypeRules.{name_faults, if_written, listed_name_faults, listed_names_faults, member_faults, members_faults, scalar_faults, object_faults, interface_faults, union_faults, enum_faults, input_object_faults, type_faults, types_faults}
use Rattle.gql_schema_rules_parts.specs.UndefinedDefinition.{undefined_definition}
use Rattle.gql_schema_rules_parts.specs.UnionMemberObjectType.{union_member_object_type}
use Rattle.gql_rules_values.specs.Directives.{directive_faults}
use Rattle.gql_rules_values.specs.Faults.{name_fault}
use Rattle.gql_rules_values.specs.Written.{is_written}
use Rattle.gql_rules_values.specs.declared.known.Defined.TheVariants.{TypesAndScalars}
use Rattle.gql_client_schema_laws.specs.Pairs.{Paired}
use Rattle.gql_client_schema_laws.specs.Retold.{IsRetoldName, IsRetoldInputField, IsRetoldField, IsRetoldValue, IsRetoldScalar, IsRetoldObject, IsRetoldInterface, IsRetoldUnion, IsRetoldEnum, IsRetoldInputObject, IsRetoldType, IsRetoldDirective, IsRetold}
use Rattle.gql_client_schema_laws.specs.Standard.{HasStandard}
use Rattle.gql_client_schema_laws.proofs.Found.{by_kind, tested, another_alike, input_alike}
use Rattle.gql_client_schema_laws.proofs.InputRules.{reserved_alike, undefined_alike, arguments_alike, input_fields_alike}
use Rattle.gql_client_schema_laws.proofs.Pairs.{joined_alike, only_alike, if_alike, flat_alike}
use Rattle.gql_client_schema_laws.proofs.References.{name_alike, non_null_alike}
use Rattle.gql_client_schema_laws.proofs.Uses.{unused, deprecation_right, url_uses_right, one_of_right}
use Rattle.gql_client_schema_laws.proofs.ValueRules.{lack_alike}
use Rattle.gql_schema_types.specs.Types.{is_one_of}
use Rattle.gql_schema_types.specs.declared.schema.Schema.{Schema}
use Rattle.gql_schema_types.specs.declared.types.EnumType.{EnumType}
use Rattle.gql_schema_types.specs.declared.types.InputObjectType.{InputObjectType}
use Rattle.gql_schema_types.specs.declared.types.InterfaceType.{InterfaceType}
use Rattle.gql_schema_types.specs.declared.types.ObjectType.{ObjectType}
use Rattle.gql_schema_types.specs.declared.types.ScalarType.{ScalarType}
use Rattle.gql_schema_types.specs.declared.types.UnionType.{UnionType}

-- ---- empty sets

no_fields : (xs ys : List FieldDefinition) → Paired IsRetoldField xs ys → field_set.is_empty xs ≡ field_set.is_empty ys
no_fields [] [] pairs = refl
no_fields (x ∷ xs) (y ∷ ys) pairs = refl
no_fields [] (y ∷ ys) pairs = absurd pairs
no_fields (x ∷ xs) [] pairs = absurd pairs

no_inputs : (xs ys : List InputValueDefinition) → Paired IsRetoldInputField xs ys → input_set.is_empty xs ≡ input_set.is_empty ys
no_inputs [] [] pairs = refl
no_inputs (x ∷ xs) (y ∷ ys) pairs = refl
no_inputs [] (y ∷ ys) pairs = absurd pairs
no_inputs (x ∷ xs) [] pairs = absurd pairs

no_members : (xs ys : List Named) → Paired IsRetoldName xs ys → member_set.is_empty xs ≡ member_set.is_empty ys
no_members [] [] pairs = refl
no_members (x ∷ xs) (y ∷ ys) pairs = refl
no_members [] (y ∷ ys) pairs = absurd pairs
no_members (x ∷ xs) [] pairs = absurd pairs

no_values : (xs ys : List EnumValueDefinition) → Paired IsRetoldValue xs ys → value_set.is_empty xs ≡ value_set.is_empty ys
no_values [] [] pairs = refl
no_values (x ∷ xs) (y ∷ ys) pairs = refl
no_values [] (y ∷ ys) pairs = absurd pairs
no_values (x ∷ xs) [] pairs = absurd pairs

names_alike : (name fresh : Named) (place again : Option Span) → name.text ≡ fresh.text → is_written place ≡ is_written again → name_faults place name ≡ [] → name_faults again fresh ≡ []
names_alike name fresh place again same written =
    if_alike (is_written place) (is_written again) (reserved_name name) (reserved_name fresh) written (reserved_alike name fresh same)

-- ---- fields of one-of input objects

may_alike : (x y : InputValueDefinition) → IsRetoldInputField x y → may_be_left_out x ≡ may_be_left_out y
may_alike x y same =
    λ i. not (non_null_alike x.ty y.ty same.input.ty i) && lack_alike literal_in x.default_value y.default_value same.input.default_value i

one_of_field_alike : (owner fresh : Named) (x y : InputValueDefinition) → IsRetoldInputField x y → one_of_field owner x ≡ [] → one_of_field fresh y ≡ []
one_of_field_alike owner fresh x y same none =
    only_alike (is_written x.location && not (may_be_left_out x)) (is_written y.location && not (may_be_left_out y)) _ _ (λ i. same.place i && not (may_alike x y same i)) none

one_of_fields_alike : (t u : InputObjectType) → IsRetoldInputObject t u → one_of_fields t ≡ [] → one_of_fields u ≡ []
one_of_fields_alike t u same =
    if_alike (is_one_of t) (is_one_of u) (flat_map (one_of_field t.name) t.fields) (flat_map (one_of_field u.name) u.fields) same.one_of
    (flat_alike IsRetoldInputField (one_of_field t.name) (one_of_field u.name) (one_of_field_alike t.name u.name) t.fields u.fields same.fields)

module _ (schema again : Schema) (retold : IsRetold schema again) (standard : HasStandard again) where
  -- ---- fields and values

  output_alike : (x y : FieldDefinition) → IsRetoldField x y → output_type schema.types x ≡ [] → output_type again.types y ≡ []
  output_alike x y same none =
      only_alike _ _ _ _ (tested schema.types again.types retold.types is_input_object input_alike (named_type x.ty).text (named_type y.ty).text (name_alike x.ty y.ty same.ty)) none

  field_uses : (x y : FieldDefinition) → IsRetoldField x y → directive_faults TypesAndScalars again.types at.FieldDefinition again.directive_definitions y.directives ≡ []
  field_uses x y same =
      deprecation_right again.types standard.string again.directive_definitions _ standard.deprecated at.FieldDefinition standard.deprecated.stands.0 same.deprecation y.directives same.uses

  written_field_alike : (x y : FieldDefinition) → IsRetoldField x y → written_field_faults schema x ≡ [] → written_field_faults again y ≡ []
  written_field_alike x y same =
      joined_alike (reserved_name x.name) _ (reserved_name y.name) _ (reserved_alike x.name y.name same.name)
      (joined_alike (fields.type_faults schema x) (fields.parts_faults schema x) (fields.type_faults again y) (fields.parts_faults again y)
      (joined_alike (undefined_definition schema.types (named_type x.ty)) (output_type schema.types x) (undefined_definition again.types (named_type y.ty)) (output_type again.types y)
      (undefined_alike schema.types again.types retold.types (named_type x.ty) (named_type y.ty) (name_alike x.ty y.ty same.ty)) (output_alike x y same))
      (joined_alike (arguments_faults schema x.arguments) _ (arguments_faults again y.arguments) _
      (arguments_alike schema again retold standard x.arguments y.arguments same.arguments) (λ none. field_uses x y same)))

  fields_alike : (xs ys : List FieldDefinition) → Paired IsRetoldField xs ys → fields_faults schema xs ≡ [] → fields_faults again ys ≡ []
  fields_alike =
      flat_alike IsRetoldField (field_faults schema) (field_faults again)
      (λ x y same. if_alike (is_written x.location) (is_written y.location) (written_field_faults schema x) (written_field_faults again y) same.place (written_field_alike x y same))

  value_uses : (x y : EnumValueDefinition) → IsRetoldValue x y → directive_faults TypesAndScalars again.types at.EnumValue again.directive_definitions y.directives ≡ []
  value_uses x y same =
      deprecation_right again.types standard.string again.directive_definitions _ standard.deprecated at.EnumValue standard.deprecated.stands.1.1.1.0 same.deprecation y.directives same.uses

  values_alike : (xs ys : List EnumValueDefinition) → Paired IsRetoldValue xs ys → values_faults schema xs ≡ [] → values_faults again ys ≡ []
  values_alike =
      flat_alike IsRetoldValue (value_faults schema) (value_faults again)
      (λ x y same. if_alike (is_written x.location) (is_written y.location) _ _ same.place
      (joined_alike (reserved_name x.value) _ (reserved_name y.value) _ (reserved_alike x.value y.value same.name) (λ none. value_uses x y same)))

  -- ---- names that are listed

  listed_alike : (xs ys : List Named) → Paired IsRetoldName xs ys → listed_names_faults schema xs ≡ [] → listed_names_faults again ys ≡ []
  listed_alike =
      flat_alike IsRetoldName (listed_name_faults schema) (listed_name_faults again)
      (λ x y same. if_alike (is_written x.location) (is_written y.location) (undefined_definition schema.types x) (undefined_definition again.types y) same.place
      (undefined_alike schema.types again.types retold.types x y same.text))

  object_member_alike : (x y : Named) → IsRetoldName x y → union_member_object_type schema.types x ≡ [] → union_member_object_type again.types y ≡ []
  object_member_alike x y same none =
      only_alike (is_another_kind schema.types x.text) (is_another_kind again.types y.text) _ _ (another_alike schema.types again.types retold.types x.text y.text same.text) none

  members_alike : (xs ys : List Named) → Paired IsRetoldName xs ys → members_faults schema xs ≡ [] → members_faults again ys ≡ []
  members_alike =
      flat_alike IsRetoldName (member_faults schema) (member_faults again)
      (λ x y same. if_alike (is_written x.location) (is_written y.location) (undefined_definition schema.types x ++ union_member_object_type schema.types x)
      (undefined_definition again.types y ++ union_member_object_type again.types y) same.place
      (joined_alike (undefined_definition schema.types x) (union_member_object_type schema.types x) (undefined_definition again.types y) (union_member_object_type again.types y)
      (undefined_alike schema.types again.types retold.types x y same.text) (object_member_alike x y same)))

  -- ---- types

  scalar_alike : (t u : ScalarType) → IsRetoldScalar t u → scalar_faults schema t ≡ [] → scalar_faults again u ≡ []
  scalar_alike t u same =
      joined_alike (name_faults t.location t.name) _ (name_faults u.location u.name) _ (names_alike t.name u.name t.location u.location same.name.text same.place)
      (λ none. url_uses_right again.types standard.string again.directive_definitions _ standard.specified_by at.Scalar standard.specified_by.stands.0 same.url u.directives same.uses)

  object_alike : (t u : ObjectType) → IsRetoldObject t u → object_faults schema t ≡ [] → object_faults again u ≡ []
  object_alike t u same =
      joined_alike (name_faults t.location t.name) _ (name_faults u.location u.name) _ (names_alike t.name u.name t.location u.location same.name.text same.place)
      (joined_alike (if_written t.location (empty_field_set t.name t.fields)) _ (if_written u.location (empty_field_set u.name u.fields)) _
      (if_alike (is_written t.location) (is_written u.location) (empty_field_set t.name t.fields) (empty_field_set u.name u.fields) same.place
      (only_alike (field_set.is_empty t.fields) (field_set.is_empty u.fields) (name_fault rule.EmptyFieldSet t.name) (name_fault rule.EmptyFieldSet u.name) (no_fields t.fields u.fields same.fields)))
      (joined_alike (directive_faults TypesAndScalars schema.types at.Object schema.directive_definitions t.directives) _
      (directive_faults TypesAndScalars again.types at.Object again.directive_definitions u.directives) _
      (λ none. unused again.types standard.string again.directive_definitions at.Object u.directives same.uses)
      (joined_alike (listed_names_faults schema t.implements_interfaces) (fields_faults schema t.fields) (listed_names_faults again u.implements_interfaces) (fields_faults again u.fields)
      (listed_alike t.implements_interfaces u.implements_interfaces same.interfaces) (fields_alike t.fields u.fields same.fields))))

  interface_alike : (t u : InterfaceType) → IsRetoldInterface t u → interface_faults schema t ≡ [] → interface_faults again u ≡ []
  interface_alike t u same =
      joined_alike (name_faults t.location t.name) _ (name_faults u.location u.name) _ (names_alike t.name u.name t.location u.location same.name.text same.place)
      (joined_alike (if_written t.location (empty_field_set t.name t.fields)) _ (if_written u.location (empty_field_set u.name u.fields)) _
      (if_alike (is_written t.location) (is_written u.location) (empty_field_set t.name t.fields) (empty_field_set u.name u.fields) same.place
      (only_alike (field_set.is_empty t.fields) (field_set.is_empty u.fields) (name_fault rule.EmptyFieldSet t.name) (name_fault rule.EmptyFieldSet u.name) (no_fields t.fields u.fields same.fields)))
      (joined_alike (directive_faults TypesAndScalars schema.types at.Interface schema.directive_definitions t.directives) _
      (directive_faults TypesAndScalars again.types at.Interface again.directive_definitions u.directives) _
      (λ none. unused again.types standard.string again.directive_definitions at.Interface u.directives same.uses)
      (joined_alike (listed_names_faults schema t.implements_interfaces) (fields_faults schema t.fields) (listed_names_faults again u.implements_interfaces) (fields_faults again u.fields)
      (listed_alike t.implements_interfaces u.implements_interfaces same.interfaces) (fields_alike t.fields u.fields same.fields))))

  union_alike : (t u : UnionType) → IsRetoldUnion t u → union_faults schema t ≡ [] → union_faults again u ≡ []
  union_alike t u same =
      joined_alike (name_faults t.location t.name) _ (name_faults u.location u.name) _ (names_alike t.name u.name t.location u.location same.name.text same.place)
      (joined_alike (if_written t.location (empty_member_set t.name t.members)) _ (if_written u.location (empty_member_set u.name u.members)) _
      (if_alike (is_written t.location) (is_written u.location) (empty_member_set t.name t.members) (empty_member_set u.name u.members) same.place
      (only_alike (member_set.is_empty t.members) (member_set.is_empty u.members) (name_fault rule.EmptyMemberSet t.name) (name_fault rule.EmptyMemberSet u.name) (no_members t.members u.members same.members)))
      (joined_alike (directive_faults TypesAndScalars schema.types at.Union schema.directive_definitions t.directives) (members_faults schema t.members)
      (directive_faults TypesAndScalars again.types at.Union again.directive_definitions u.directives) (members_faults again u.members)
      (λ none. unused again.types standard.string again.directive_definitions at.Union u.directives same.uses) (members_alike t.members u.members same.members)))

  enum_alike : (t u : EnumType) → IsRetoldEnum t u → enum_faults schema t ≡ [] → enum_faults again u ≡ []
  enum_alike t u same =
      joined_alike (name_faults t.location t.name) _ (name_faults u.location u.name) _ (names_alike t.name u.name t.location u.location same.name.text same.place)
      (joined_alike (if_written t.location (empty_value_set t.name t.values)) _ (if_written u.location (empty_value_set u.name u.values)) _
      (if_alike (is_written t.location) (is_written u.location) (empty_value_set t.name t.values) (empty_value_set u.name u.values) same.place
      (only_alike (value_set.is_empty t.values) (value_set.is_empty u.values) (name_fault rule.EmptyValueSet t.name) (name_fault rule.EmptyValueSet u.name) (no_values t.values u.values same.values)))
      (joined_alike (directive_faults TypesAndScalars schema.types at.Enum schema.directive_definitions t.directives) (values_faults schema t.values)
      (directive_faults TypesAndScalars again.types at.Enum again.directive_definitions u.directives) (values_faults again u.values)
      (λ none. unused again.types standard.string again.directive_definitions at.Enum u.directives same.uses) (values_alike t.values u.values same.values)))

  input_object_alike : (t u : InputObjectType) → IsRetoldInputObject t u → input_object_faults schema t ≡ [] → input_object_faults again u ≡ []
  input_object_alike t u same =
      joined_alike (name_faults t.location t.name) _ (name_faults u.location u.name) _ (names_alike t.name u.name t.location u.location same.name.text same.place)
      (joined_alike (if_written t.location (empty_input_value_set t.name t.fields)) _ (if_written u.location (empty_input_value_set u.name u.fields)) _
      (if_alike (is_written t.location) (is_written u.location) (empty_input_value_set t.name t.fields) (empty_input_value_set u.name u.fields) same.place
      (only_alike (input_set.is_empty t.fields) (input_set.is_empty u.fields) (name_fault rule.EmptyInputValueSet t.name) (name_fault rule.EmptyInputValueSet u.name) (no_inputs t.fields u.fields same.fields)))
      (joined_alike (directive_faults TypesAndScalars schema.types at.InputObject schema.directive_definitions t.directives) _
      (directive_faults TypesAndScalars again.types at.InputObject again.directive_definitions u.directives) _
      (λ none. one_of_right again.types standard.string again.directive_definitions _ standard.one_of at.InputObject standard.one_of.stands.0 (is_one_of u) u.directives same.uses)
      (joined_alike (input_fields_faults schema t.fields) (one_of_fields t) (input_fields_faults again u.fields) (one_of_fields u)
      (input_fields_alike schema again retold standard t.fields u.fields same.fields) (one_of_fields_alike t u same))))

  pub types_alike : types_faults schema ≡ [] → types_faults again ≡ []
  types_alike =
      flat_alike IsRetoldType (type_faults schema) (type_faults again)
      (by_kind (λ t u. type_faults schema t ≡ [] → type_faults again u ≡ []) scalar_alike object_alike interface_alike union_alike enum_alike input_object_alike)
      schema.types again.types retold.types

  -- ---- directives

  pub directives_alike : directive_definitions_faults schema ≡ [] → directive_definitions_faults again ≡ []
  directives_alike =
      flat_alike IsRetoldDirective (directive_definition_faults schema) (directive_definition_faults again)
      (λ x y same. if_alike (is_written x.location) (is_written y.location) (reserved_name x.name ++ arguments_faults schema x.arguments) (reserved_name y.name ++ arguments_faults again y.arguments) same.place
      (joined_alike (reserved_name x.name) (arguments_faults schema x.arguments) (reserved_name y.name) (arguments_faults again y.arguments)
      (reserved_alike x.name y.name same.name.text) (arguments_alike schema again retold standard x.arguments y.arguments same.arguments)))
      schema.directive_definitions again.directive_definitions retold.directives

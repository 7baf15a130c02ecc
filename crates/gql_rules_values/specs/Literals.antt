-- The rules on literals: section 5.6 of GraphQL October 2021.
use Rattle.std.specs.Prelude.{Option, List, [], ◌++◌, if◌then◌else◌}
use Rattle.std.specs.List.{flat_map}
use Rattle.std.specs.Option.{option_map_or}
use Rattle.gql_ast_base.specs.declared.type_ref.TypeRef.{TypeRef}
use Rattle.gql_ast_base.specs.declared.value.Value.{Value}
use Rattle.gql_ast_base.specs.declared.value.ValueKind.{ValueKind, out-ValueKind}
use Rattle.gql_ast_base.specs.declared.value.ValueKind.TheOpen.{ValueKind-F}
use Rattle.gql_diag_messages.specs.declared.diagnostic_data.DiagnosticData.{DiagnosticData}
use Rattle.gql_rules_values.specs.Known.{is_defined}
use Rattle.gql_ast_base.specs.TypeParts.{named_type}
use Rattle.gql_rules_values.specs.declared.known.Defined.{Defined}
use Rattle.gql_rules_values.specs.IntCoercionError.{int_coercion_error}
use Rattle.gql_rules_values.specs.OneOfValue.{one_of_value}
use Rattle.gql_rules_values.specs.RequiredField.{required_fields}
use Rattle.gql_rules_values.specs.Typed.{Typed, typed}
use Rattle.gql_rules_values.specs.UndefinedEnumValue.{undefined_enum_value}
use Rattle.gql_rules_values.specs.UndefinedInputValue.{undefined_input_values}
use Rattle.gql_rules_values.specs.UniqueInputValue.{unique_keys}
use Rattle.gql_rules_values.specs.UnsupportedValueType.{unsupported_value_type}
use Rattle.gql_ast_base.specs.Names.{Named}
use Rattle.gql_schema_types.specs.Types.{type_called}
use Rattle.gql_schema_types.specs.declared.types.ExtendedType.{ExtendedType}
use Rattle.gql_schema_types.specs.declared.types.ExtendedType.TheVariants as type

-- the rules on the keys of a literal at an input object
abbrev pub keys_at : Value → List (Named × Value) → ExtendedType → List DiagnosticData
keys_at literal members (type.InputObject it) =
    undefined_input_values it literal members ++ (required_fields literal members it.fields ++ one_of_value it literal members)
keys_at literal members _ = []

module _ (types : List ExtendedType) where
  abbrev pub keys_level : TypeRef → Value → ValueKind-F ValueKind Value → List DiagnosticData
  keys_level ty literal (ValueKind-F.Object members) = option_map_or (keys_at literal members) (type_called (named_type ty).text types) []
  keys_level ty literal _ = []

  abbrev pub keys : TypeRef → Value → List DiagnosticData
  keys ty literal = keys_level ty literal (out-ValueKind literal.kind)

  -- the rules on a literal where a type is wanted
  abbrev pub at_type : Value → TypeRef → List DiagnosticData
  at_type literal ty =
      unsupported_value_type types ty literal ++ (int_coercion_error types ty literal ++ (undefined_enum_value types ty literal ++ keys ty literal))

module _ (defined : Defined) (types : List ExtendedType) where
  -- nothing is asked where the type is not defined
  abbrev pub at_defined : Value → TypeRef → List DiagnosticData
  at_defined literal ty = if is_defined defined types (named_type ty).text then at_type types literal ty else []

  abbrev pub node_faults : Typed → List DiagnosticData
  node_faults node = unique_keys node.literal ++ option_map_or (at_defined node.literal) node.ty []

  -- what is wrong with a literal and with the values inside it
  abbrev pub literal_faults : Option TypeRef → Value → List DiagnosticData
  literal_faults ty literal = flat_map node_faults (typed types ty literal)

-- A name at an enum is one of its values: sections 3.9 and 5.6.1 of GraphQL October 2021.
use Rattle.std.specs.Prelude.{not, List, [], ◌∷◌, None, is_some}
use Rattle.std.specs.Option.{option_map_or}
use Rattle.gql_ast_base.specs.Names.{Named}
use Rattle.gql_ast.specs.declared.field_definition.EnumValueDefinition.{EnumValueDefinition}
use Rattle.gql_ast_base.specs.declared.type_ref.TypeRef.{TypeRef}
use Rattle.gql_ast_base.specs.declared.value.Value.{Value}
use Rattle.gql_ast_base.specs.declared.value.ValueKind.{ValueKind, out-ValueKind}
use Rattle.gql_ast_base.specs.declared.value.ValueKind.TheOpen.{ValueKind-F}
use Rattle.gql_diag_messages.specs.declared.rule.Rule.TheVariants.{UndefinedEnumValue}
use Rattle.gql_diag_messages.specs.declared.diagnostic_data.DiagnosticData.{DiagnosticData}
use Rattle.gql_rules_values.specs.Faults.{fault, only_if}
use Rattle.gql_ast_base.specs.TypeParts.{named_type}
use Rattle.gql_schema_types.specs.Entries.{entry}
use Rattle.gql_schema_types.specs.Types.{type_called}
use Rattle.gql_schema_types.specs.declared.types.ExtendedType.{ExtendedType}
use Rattle.gql_schema_types.specs.declared.types.ExtendedType.TheVariants as type

abbrev pub value_name : EnumValueDefinition → Named
value_name value = value.value

module _ (literal : Value) where
  -- the name at a type
  abbrev pub not_among : Named → ExtendedType → List DiagnosticData
  not_among name (type.Enum it) =
      only_if (not (is_some (entry value_name name.text it.values))) (fault UndefinedEnumValue (name.text ∷ it.name.text ∷ []) literal.location None)
  not_among name _ = []

  module _ (types : List ExtendedType) (ty : TypeRef) where
    abbrev pub enum_level : ValueKind-F ValueKind Value → List DiagnosticData
    enum_level (ValueKind-F.Enum name) = option_map_or (not_among name) (type_called (named_type ty).text types) []
    enum_level _ = []

abbrev pub undefined_enum_value : List ExtendedType → TypeRef → Value → List DiagnosticData
undefined_enum_value types ty literal = enum_level literal types ty (out-ValueKind literal.kind)

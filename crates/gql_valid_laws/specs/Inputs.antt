-- What can be coerced: variables and input fields of input types (section 3.4.2 of GraphQL October 2021) with constant defaults.
use Rattle.std.specs.Prelude.{◌≡◌, ℕ, Bool, true, false, not, List, Option, Some}
use Rattle.std.specs.List.{All}
use Rattle.std.specs.Option.{option_map_or}
use Rattle.gql_ast.specs.declared.field_definition.InputValueDefinition.{InputValueDefinition}
use Rattle.gql_ast.specs.declared.operation.VariableDefinition.{VariableDefinition}
use Rattle.gql_ast_base.specs.declared.type_ref.TypeRef.{TypeRef}
use Rattle.gql_ast_base.specs.declared.value.Value.{Value}
use Rattle.gql_coerce.specs.InputTypes.{input_object_called}
use Rattle.gql_ast_base.specs.TypeParts.{named_type}
use Rattle.gql_schema_types.specs.Types.{type_called, is_composite}
use Rattle.gql_schema_types.specs.declared.types.ExtendedType.{ExtendedType}
use Rattle.gql_schema_types.specs.declared.types.InputObjectType.{InputObjectType}
use Rattle.gql_ast_laws.specs.Constants.{is_constant_default}

-- it is defined, and neither an object type nor an interface nor a union
abbrev pub is_input : Option ExtendedType → Bool
is_input found = option_map_or (λ ty. not (is_composite ty)) found false

module _ (types : List ExtendedType) where
  -- within all lists the type is an input type of the schema
  abbrev pub is_input_type : TypeRef → Bool
  is_input_type ty = is_input (type_called (named_type ty).text types)

  -- something of such a type, with such a default
  pub record IsInput (ty : TypeRef) (default : Option Value) : Type 0 where
    pub typed : is_input_type ty ≡ true
    pub constant : is_constant_default default ≡ true

  abbrev pub IsInputField : InputValueDefinition → Type 0
  IsInputField field = IsInput field.ty field.default_value

  abbrev pub IsInputVariable : VariableDefinition → Type 0
  IsInputVariable variable = IsInput variable.ty variable.default_value

  -- so are all fields of all input objects
  abbrev pub AreInputFields : Type 0
  AreInputFields = (name : List ℕ) (it : InputObjectType) → input_object_called name types ≡ Some it → All IsInputField it.fields

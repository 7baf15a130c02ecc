-- Types of two schemas that rules find alike: by name, and by kind.
use Rattle.std.specs.Prelude.{◌≡◌, ℕ, Bool, false, List}
use Rattle.std.specs.Option.{option_map_or}
use Rattle.gql_schema_rules_parts.specs.ObjectTypes.{is_another_kind}
use Rattle.gql_schema_rules_parts.specs.OutputType.{is_input_object}
use Rattle.gql_rules_values.specs.Known.{is_known}
use Rattle.gql_schema_types.specs.Types.{type_called, is_composite}
use Rattle.gql_schema_types.specs.declared.types.ExtendedType.{ExtendedType}

-- what the type of a name is said to be, false where there is none
abbrev pub is_found : (ExtendedType → Bool) → List ExtendedType → List ℕ → Bool
is_found test types name = option_map_or test (type_called name types) false

-- the name is that of a type of both or of neither, and of the same kind as far as rules ask
pub record FindAlike (types others : List ExtendedType) (name : List ℕ) : Type 0 where
  pub known : is_known types name ≡ is_known others name
  pub another_kind : is_another_kind types name ≡ is_another_kind others name
  pub composite : is_found is_composite types name ≡ is_found is_composite others name
  pub input_object : is_found is_input_object types name ≡ is_found is_input_object others name

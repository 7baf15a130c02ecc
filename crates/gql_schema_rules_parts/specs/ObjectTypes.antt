-- Names of object types.
use Rattle.std.specs.Prelude.{ℕ, Bool, false, ◌&&◌, not, List}
use Rattle.std.specs.Option.{option_map_or}
use Rattle.gql_rules_values.specs.Known.{is_known}
use Rattle.gql_schema_types.specs.Implementers.{is_object}
use Rattle.gql_schema_types.specs.Types.{type_called}
use Rattle.gql_schema_types.specs.declared.types.ExtendedType.{ExtendedType}

-- a type that is defined, and no object type
abbrev pub is_another_kind : List ExtendedType → List ℕ → Bool
is_another_kind types name = is_known types name && not (option_map_or is_object (type_called name types) false)

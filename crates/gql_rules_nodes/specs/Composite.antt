-- Which types are objects, interfaces or unions: section 3.4 of GraphQL October 2021. Nothing is said of a name that is not defined.
use Rattle.std.specs.Prelude.{ℕ, Bool, false, not, List}
use Rattle.std.specs.Option.{option_map_or}
use Rattle.gql_schema_types.specs.Types.{type_called, is_composite}
use Rattle.gql_schema_types.specs.declared.types.ExtendedType.{ExtendedType}

abbrev pub is_composite_name : List ExtendedType → List ℕ → Bool
is_composite_name types name = option_map_or is_composite (type_called name types) false

abbrev pub is_of_other_kind : List ExtendedType → List ℕ → Bool
is_of_other_kind types name = option_map_or (λ ty. not (is_composite ty)) (type_called name types) false

-- A type that a value is coerced to, with what the schema has under its name.
use Rattle.std.specs.Prelude.{◌≡◌, List}
use Rattle.std.specs.Option.{option_copied}
use Rattle.gql_schema_types.specs.Types.{type_called}
use Rattle.gql_schema_types.specs.declared.types.ExtendedType.{ExtendedType}
use Rattle.gql_ast_base.specs.TypeParts.{named_type}
use Rattle.gql_coerce.specs.declared.wanted.Wanted.{Wanted}

-- what was found is the type of the name within all lists
abbrev pub IsFound : List ExtendedType → Wanted → Type 0
IsFound types wanted = option_copied wanted.found ≡ type_called (named_type wanted.ty.now).text types

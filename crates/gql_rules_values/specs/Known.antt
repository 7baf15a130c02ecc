-- Which types are defined: in the rules on schemas a built-in scalar counts as defined, even where the schema leaves it out (section 3.5 of
-- GraphQL October 2021).
use Rattle.std.specs.Prelude.{ℕ, Bool, ◌||◌, List, is_some, codes}
use Rattle.std.specs.Str.{bytes_eq}
use Rattle.gql_rules_values.specs.declared.known.Defined.{Defined}
use Rattle.gql_rules_values.specs.declared.known.Defined.TheVariants.{Types, TypesAndScalars}
use Rattle.gql_schema_types.specs.Types.{type_called}
use Rattle.gql_schema_types.specs.declared.types.ExtendedType.{ExtendedType}

abbrev pub is_built_in_scalar : List ℕ → Bool
is_built_in_scalar name =
    bytes_eq name (codes "Int")
    || (bytes_eq name (codes "Float") || (bytes_eq name (codes "String") || (bytes_eq name (codes "Boolean") || bytes_eq name (codes "ID"))))

abbrev pub is_known : List ExtendedType → List ℕ → Bool
is_known types name = is_some (type_called name types) || is_built_in_scalar name

-- the name is that of a type of the schema, or of one that counts
abbrev pub is_defined : Defined → List ExtendedType → List ℕ → Bool
is_defined Types types name = is_some (type_called name types)
is_defined TypesAndScalars types name = is_known types name

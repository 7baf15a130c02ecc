-- The table of the possible types of a schema: section 5.5.2.3 of GraphQL October 2021.
use Rattle.std.specs.Prelude.{◌≡◌, ℕ, List}
use Rattle.std.specs.Map.{lookup}
use Rattle.std.specs.Str.{bytes_eq}
use Rattle.gql_schema_types.specs.Implementers.{implementers_of}
use Rattle.gql_schema_types.specs.declared.types.ExtendedType.{ExtendedType}
use Rattle.gql_rules_nodes.specs.PossibleTypes.{tables_in}
use Rattle.gql_rules_nodes.specs.declared.possible_types.PossibleTypes.{PossibleTypes}

-- the table is that of these types: each interface has its implementers, and each type the names of its possible objects
pub record ArePossibleIn (types : List ExtendedType) (possible : PossibleTypes) : Type 0 where
  pub implementers : (name : List ℕ) → lookup (bytes_eq name) possible.implementers ≡ implementers_of name types
  pub tables : possible.tables ≡ tables_in possible.implementers types

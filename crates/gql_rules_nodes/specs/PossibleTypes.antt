-- The object types that are possible where a type is: GetPossibleTypes in section 5.5.2.3 of GraphQL October 2021.
use Rattle.std.specs.Prelude.{ℕ, Bool, true, List, [], ◌∷◌, map, fold}
use Rattle.std.specs.List.{list_any}
use Rattle.std.specs.Map.{lookup}
use Rattle.std.specs.Option.{option_map_or}
use Rattle.std.specs.Str.{bytes_eq}
use Rattle.gql_ast_base.specs.Names.{Named}
use Rattle.gql_schema_types.specs.Implementers.{Found, implementers_in}
use Rattle.gql_schema_types.specs.Types.{type_called}
use Rattle.gql_schema_types.specs.declared.types.ExtendedType.{ExtendedType}
use Rattle.gql_schema_types.specs.declared.types.ExtendedType.TheVariants as type
use Rattle.gql_rules_nodes.specs.Seen.{with_name}

abbrev pub texts_of : List Named → List (List ℕ)
texts_of names = map (λ (name : Named). name.text) names

-- a name among these
abbrev pub is_among : List (List ℕ) → List ℕ → Bool
is_among names name = list_any (bytes_eq name) names

module _ (types : List ExtendedType) where
  -- the names of an object itself, of the objects that implement an interface, and of a union's members
  abbrev pub possible_names : ExtendedType → List Named
  possible_names (type.Object it) = it.name ∷ []
  possible_names (type.Interface it) = (implementers_in it.name.text types).objects
  possible_names (type.Union it) = it.members
  possible_names _ = []

  abbrev pub possible_texts : ExtendedType → List (List ℕ)
  possible_texts ty = texts_of (possible_names ty)

  -- an object type is possible for both types
  abbrev pub have_common : ExtendedType → ExtendedType → Bool
  have_common first second = list_any (is_among (possible_texts second)) (possible_texts first)

  -- the same of names; nothing is asked of a name that is not defined
  abbrev pub can_meet : List ℕ → List ℕ → Bool
  can_meet first second =
      option_map_or (λ a. option_map_or (have_common a) (type_called second types) true) (type_called first types) true

-- ---- a table of the names of each type

-- of each name the first
abbrev pub distinct_texts : List Named → List (List ℕ)
distinct_texts names = fold with_name [] names

-- the possible names by a map of the types that implement each interface
abbrev pub objects_in : Found → Named → List Named
objects_in implementers name = option_map_or (λ found. found.objects) (lookup (bytes_eq name.text) implementers) []

abbrev pub names_in : Found → ExtendedType → List Named
names_in implementers (type.Object it) = it.name ∷ []
names_in implementers (type.Interface it) = objects_in implementers it.name
names_in implementers (type.Union it) = it.members
names_in implementers _ = []

abbrev pub tables_in : Found → List ExtendedType → List (List (List ℕ))
tables_in implementers types = map (λ ty. distinct_texts (names_in implementers ty)) types

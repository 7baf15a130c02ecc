-- A type lists each interface that an interface which it lists does: sections 3.6 and 3.7 of GraphQL October 2021,
-- "IsValidImplementation".
use Rattle.std.specs.Prelude.{ℕ, Bool, ◌&&◌, not, List, [], ◌∷◌, ◌++◌, None, is_some, position, if◌then◌else◌}
use Rattle.std.specs.List.{list_any}
use Rattle.std.specs.Option.{option_map_or}
use Rattle.std.specs.Str.{bytes_eq}
use Rattle.gql_ast_base.specs.Names.{Named}
use Rattle.gql_diag_messages.specs.declared.rule.Rule.TheVariants.{TransitiveImplementedInterfaces}
use Rattle.gql_diag_messages.specs.declared.diagnostic_data.DiagnosticData.{DiagnosticData}
use Rattle.gql_rules_values.specs.Faults.{fault, only_if}
use Rattle.gql_rules_values.specs.Known.{is_known}
use Rattle.gql_rules_values.specs.Written.{is_written}
use Rattle.gql_schema_types.specs.Types.{type_called}
use Rattle.gql_schema_types.specs.declared.types.ExtendedType.{ExtendedType}
use Rattle.gql_schema_types.specs.declared.types.ExtendedType.TheVariants.{Interface}

abbrev pub is_listed : List Named → List ℕ → Bool
is_listed names name = list_any (λ (listed : Named). bytes_eq name listed.text) names

-- an interface that has to be listed, told at the name of the type
abbrev pub must_implement : Named → Named → DiagnosticData
must_implement ty interface = fault TransitiveImplementedInterfaces (ty.text ∷ interface.text ∷ []) ty.location None

-- the interfaces that an interface lists
abbrev pub interfaces_of : ExtendedType → List Named
interfaces_of (Interface it) = it.implements_interfaces
interfaces_of _ = []

abbrev pub interfaces_by : List ExtendedType → Named → List Named
interfaces_by types name = if is_written name.location then option_map_or interfaces_of (type_called name.text types) [] else []

-- for a type that lists these interfaces
module _ (types : List ExtendedType) (listed : List Named) where
  -- an interface that is defined, is not listed and was not told
  abbrev pub is_new : List (List ℕ) → Named → Bool
  is_new told interface = (is_known types interface.text && not (is_listed listed interface.text)) && not (is_some (position (bytes_eq interface.text) told))

  abbrev pub told_with : List (List ℕ) → Named → List (List ℕ)
  told_with told interface = if is_new told interface then told ++ interface.text ∷ [] else told

  abbrev pub told_after : List (List ℕ) → List Named → List (List ℕ)
  told_after told [] = told
  told_after told (interface ∷ rest) = told_after (told_with told interface) rest

-- for a type of this name that lists these interfaces
module _ (types : List ExtendedType) (ty : Named) (listed : List Named) where
  abbrev pub missing : List (List ℕ) → List Named → List DiagnosticData
  missing told [] = []
  missing told (interface ∷ rest) =
      only_if (is_new types listed told interface) (must_implement ty interface) ++ missing (told_with types listed told interface) rest

  -- of each listed interface the interfaces, each that is missing once
  abbrev pub missing_by : List (List ℕ) → List Named → List DiagnosticData
  missing_by told [] = []
  missing_by told (name ∷ names) = missing told (interfaces_by types name) ++ missing_by (told_after types listed told (interfaces_by types name)) names

  abbrev pub transitive_implemented_interfaces : List DiagnosticData
  transitive_implemented_interfaces = missing_by [] listed

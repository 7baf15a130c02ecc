-- What only private clauses and proofs cite, beside `Implementers`.
use Rattle.std.specs.Prelude.{ℕ, Bool, false, if◌then◌else◌, ◌-◌}
use Rattle.std.specs.Prelude.{List, [], ◌∷◌, ◌++◌, length, slice_get}
use Rattle.std.specs.Map.{lookup, set_value}
use Rattle.std.specs.Option.{option_map_or}
use Rattle.std.specs.Str.{bytes_eq}
use Rattle.gql_ast_base.specs.Names.{Named}
use Rattle.gql_schema_types.specs.declared.implementers.Implementers.{Implementers}
use Rattle.gql_schema_types.specs.declared.types.ExtendedType.{ExtendedType}
use Rattle.gql_schema_types.specs.declared.types.ExtendedType.TheVariants.{Object, Interface}
use Rattle.gql_schema_types.specs.Implementers.{Found}

abbrev pub is_last : List ℕ → List Named → Bool
is_last name names = option_map_or (λ (last : Named). bytes_eq name last.text) (slice_get names (length names - 1)) false

-- the names, and this one last unless it stands there already
abbrev pub with_last : List Named → Named → List Named
with_last names name = if is_last name.text names then names else names ++ name ∷ []

abbrev pub no_implementers : Implementers
no_implementers = record { objects = []; interfaces = [] }

abbrev pub with_implementer : ExtendedType → Implementers → Implementers
with_implementer (Object it) found = record found { objects = with_last found.objects it.name }
with_implementer (Interface it) found = record found { interfaces = with_last found.interfaces it.name }
with_implementer _ found = found

-- a type at one of its interfaces
abbrev pub with_listing : ExtendedType → Found → Named → Found
with_listing ty found interface =
    option_map_or (λ known. set_value (bytes_eq interface.text) found (with_implementer ty known)) (lookup (bytes_eq interface.text) found)
    (found ++ (interface.text, with_implementer ty no_implementers) ∷ [])

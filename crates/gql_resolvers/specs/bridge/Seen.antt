-- Misfits as the code has them.
use Rattle.std.specs.Prelude.{◌≡◌, ℕ, List, Option, Some, None, Result, Ok, Err}
use Rattle.std.specs.Borrow.{Bor}
use Rattle.std.specs.Option.{option_map}
use Rattle.jb_text.specs.declared.refused.Refused.{Refused}
use Rattle.jb_text.specs.declared.refused.Refused.TheVariants.{Fault, Memory}
use Rattle.gql_ast_base.specs.declared.type_ref.TypeRef.{TypeRef}
use Rattle.gql_schema_types.specs.Schemas.{object_of}
use Rattle.gql_schema_types.specs.Types.{type_called}
use Rattle.gql_schema_types.specs.declared.schema.Schema.{Schema}
use Rattle.gql_schema_types.specs.declared.types.ExtendedType.{ExtendedType}
use Rattle.gql_schema_types.specs.declared.types.ObjectType.{ObjectType}
use Rattle.gql_resolvers.specs.Resolved.{Misfit as Wrong}
use Rattle.gql_resolvers.specs.declared.misfit.Misfit.{Misfit}
use Rattle.gql_resolvers.specs.Fit.{object_misfit, object_at}

abbrev pub seen : Misfit → Wrong
seen misfit = record { message = misfit.message; marked = misfit.suspected }

abbrev pub misfit_seen : Option Misfit → Option Wrong
misfit_seen found = option_map seen found

-- a refusal for this, or out of memory
abbrev pub Refuses : {A : Type 0} → Wrong → Result A (Refused Misfit) → Type 0
Refuses wrong (Ok found) = ⊥
Refuses wrong (Err (Fault misfit)) = seen misfit ≡ wrong
Refuses wrong (Err Memory) = Unit {0}

-- an object type that is found, where nothing is wrong with it; else what is wrong
abbrev pub IsFitOf : Option ObjectType → Option Wrong → Result (Bor ObjectType) (Refused Misfit) → Type 0
IsFitOf object wrong (Ok T) = (wrong ≡ None) × (object ≡ Some T.now)
IsFitOf object wrong (Err (Fault misfit)) = wrong ≡ Some (seen misfit)
IsFitOf object wrong (Err Memory) = Unit {0}

-- at a type, of an object by the name of its type
abbrev pub IsFitOfObject : Schema → TypeRef → List ℕ → Result (Bor ObjectType) (Refused Misfit) → Type 0
IsFitOfObject schema ty found result = IsFitOf (object_of schema found) (object_misfit schema ty found) result

-- where the type of the name T is this one
abbrev pub IsFitAt : Schema → ExtendedType → List ℕ → List ℕ → Result (Bor ObjectType) (Refused Misfit) → Type 0
IsFitAt schema wanted T found result =
    type_called T schema.types ≡ Some wanted → IsFitOf (object_of schema found) (object_at schema (Some wanted) T found) result

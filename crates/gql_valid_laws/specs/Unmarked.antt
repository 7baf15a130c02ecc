-- A fault of coercion is not marked as what validation should have refused: section 6.1.2 of GraphQL October 2021.
use Rattle.std.specs.Prelude.{◌≡◌, false, Ok, Err}
use Rattle.gql_coerce.specs.Outcome.{Outcome}

-- no fault came, or one that is not marked
abbrev pub IsUnmarked : {A : Type 0} → Outcome A → Type 0
IsUnmarked (Ok found) = Unit {0}
IsUnmarked (Err fault) = fault.suspected ≡ false

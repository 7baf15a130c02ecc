-- The ways that a plan has collected for, and what they cost.
use Rattle.std.specs.Prelude.{ℕ, List}
use Rattle.gql_schema_types.specs.declared.types.ObjectType.{ObjectType}

-- The response keys on the way to an object, each with the type of the object that it leads to. Indices of lists are left out.
abbrev pub Way : Type 0
Way = List (List ℕ × ObjectType)

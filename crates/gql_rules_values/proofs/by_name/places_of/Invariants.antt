use Rattle.std.proofs.Common.{◌≡◌, ℕ, List, position, take}
use Rattle.std.specs.Map.{lookup}
use Rattle.std.specs.Str.{bytes_eq}
use Rattle.gql_rules_values.proofs.by_name.places_of.Given as goal
use Rattle.gql_schema_types.specs.Entries.{is_called}

-- the places of those that were gone through
abbrev pub invariant-loop-at : goal.invariant-loop-at
invariant-loop-at g l = (name : List ℕ) → lookup (bytes_eq name) l.places ≡ position (is_called g.T.Placed.name_of name) (take l.at l.items)

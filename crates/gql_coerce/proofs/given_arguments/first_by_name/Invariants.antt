use Rattle.std.proofs.Common.{◌≡◌, ◌≤◌, ℕ, List, length, drop}
use Rattle.std.specs.Option.{option_copied}
use Rattle.std.specs.Str.{bytes_eq}
use Rattle.std.specs.Map.{lookup}
use Rattle.gql_coerce.specs.Arguments.{first_named}
use Rattle.gql_coerce.proofs.given_arguments.first_by_name.Given as goal

-- the first ones of those behind
abbrev pub invariant-loop-left : goal.invariant-loop-left
invariant-loop-left l =
    (l.left ≤ length l.arguments)
    × ((name : List ℕ) → option_copied (lookup (bytes_eq name) l.found) ≡ first_named name (drop l.left l.arguments))

abbrev pub decreases-loop-left : goal.decreases-loop-left
decreases-loop-left l = l.left

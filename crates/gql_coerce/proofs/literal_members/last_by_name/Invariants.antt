use Rattle.std.proofs.Common.{◌≡◌, ℕ, List, drop}
use Rattle.std.specs.Option.{option_copied}
use Rattle.std.specs.Str.{bytes_eq}
use Rattle.std.specs.Map.{lookup}
use Rattle.gql_coerce.specs.LiteralValue.{last_of, last_named}
use Rattle.gql_coerce.proofs.literal_members.last_by_name.Given as goal

-- what was found, and what is left, make the whole
abbrev pub invariant-loop-member : goal.invariant-loop-member
invariant-loop-member l =
    (name : List ℕ) → last_of (option_copied (lookup (bytes_eq name) l.found)) name (drop l.member-index l.members) ≡ last_named name l.members

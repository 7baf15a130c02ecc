use Rattle.std.proofs.Common.{◌≡◌, None, drop}
use Rattle.std.specs.Option.{option_copied}
use Rattle.gql_coerce.specs.LiteralValue.{last_of}
use Rattle.gql_coerce.proofs.literal_members.last_named.Given as goal

abbrev pub invariant-loop-member : goal.invariant-loop-member
invariant-loop-member l = last_of (option_copied l.found) l.name (drop l.member-index l.members) ≡ last_of None l.name l.members

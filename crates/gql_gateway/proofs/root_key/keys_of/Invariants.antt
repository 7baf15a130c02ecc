use Rattle.std.proofs.Common.{◌≡◌, take}
use Rattle.gql_gateway.specs.bridge.KeysSeen.{keys_seen}
use Rattle.gql_gateway.proofs.root_key.keys_of.Given as goal

-- the keys of the groups so far
abbrev pub invariant-loop-group : goal.invariant-loop-group
invariant-loop-group l = l.keys ≡ keys_seen (take l.group-index l.grouped)

use Rattle.std.proofs.Common.{◌≡◌, map, take}
use Rattle.std.specs.Map.{values_of}
use Rattle.gql_rounds.specs.Told.{ask_value}
use Rattle.gql_rounds.proofs.asks_json.asks_bytes.Given as goal

-- those so far
abbrev pub invariant-loop-index : goal.invariant-loop-index
invariant-loop-index l = l.items ≡ map ask_value (take l.index (values_of l.asks))

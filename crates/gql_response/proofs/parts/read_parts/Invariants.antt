use Rattle.std.proofs.Common.{◌≡◌, drop}
use Rattle.gql_response.specs.Puts.{in_turn}
use Rattle.gql_response.proofs.parts.read_parts.Given as goal

abbrev pub invariant-loop-index : goal.invariant-loop-index
invariant-loop-index g l =
    in_turn g.P.Parts.put_gives l.initial.parts l.members ≡ in_turn g.P.Parts.put_gives l.parts (drop l.index l.members)

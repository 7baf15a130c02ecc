use Rattle.std.proofs.Common.{take}
use Rattle.gql_rounds.specs.bridge.Walked.{request_of, stands_of}
use Rattle.gql_rounds.proofs.Visits.{IsOnLevel}
use Rattle.gql_rounds.proofs.walk.Walk.next_level.Given as goal

-- what is below those that were visited
abbrev pub invariant-loop-number : goal.invariant-loop-number
invariant-loop-number g l =
    IsOnLevel (request_of l.self) l.self.executing (stands_of l.below) (stands_of (take l.number l.level)) l.asks l.fn.asks

use Rattle.std.proofs.Common.{drop}
use Rattle.gql_collect.specs.Plan.{groups_in}
use Rattle.gql_exec.proofs.Views.{views}
use Rattle.gql_rounds.specs.bridge.Walked.{request_of, stand_of, stands_of}
use Rattle.gql_rounds.proofs.Visits.{IsVisiting}
use Rattle.gql_rounds.proofs.walk.Walk.visit.Given as goal

-- what was added and noted so far, with what the parts that are left add, makes the whole
abbrev pub invariant-loop-number : goal.invariant-loop-number
invariant-loop-number g l =
    IsVisiting (request_of l.self) l.visit.object_type.now (stand_of l.visit).object (stands_of l.below) (stands_of l.fn.below) l.asks l.fn.asks
    (views (drop l.number (groups_in l.parts))) (views (groups_in l.parts))

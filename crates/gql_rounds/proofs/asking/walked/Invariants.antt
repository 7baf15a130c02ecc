use Rattle.gql_rounds.specs.Walked.{request_in}
use Rattle.gql_rounds.specs.bridge.Walked.{stands_of}
use Rattle.gql_rounds.specs.Wanted.{root_stand}
use Rattle.gql_rounds.proofs.Levels.{IsAtLevel}
use Rattle.gql_rounds.proofs.asking.walked.Given as goal

-- the level of this depth is reached, and all above it was asked for what it lacks
abbrev pub invariant-loop-depth : goal.invariant-loop-depth
invariant-loop-depth g l =
    IsAtLevel (request_in l.executing l.answers) l.executing (root_stand l.root_type l.executing.operation.now.selection_set.selections) l._depth (stands_of l.level) l.asks

use Rattle.std.proofs.Common.{rules, ◌≡◌, [], ap}
use Rattle.gql_rounds.specs.Walked.{request_in}
use Rattle.gql_rounds.specs.bridge.Walked.{stands_of}
use Rattle.gql_rounds.specs.Wanted.{root_stand}
use Rattle.gql_rounds.proofs.Levels.{level-begun, level-ended, level-next, root-within}
use Rattle.gql_rounds.proofs.asking.walked.Goals as goal

pub loop-depth-init : goal.loop-depth-init
loop-depth-init g c =
    let e = c.args.executing.now in
    level-begun (request_in e c.args.answers.now) e (root_stand c.args.root_type.now e.operation.now.selection_set.selections) (stands_of c.in_ok-level.level) c.new-asks.result
    c.in_ok-level.ensures c.new-asks.ensures
    (root-within e c.args.root_type.now (stands_of c.in_ok-level.level) c.in_ok-level.ensures)

pub next_level-requires : goal.next_level-requires
next_level-requires g c = record { ranked = c.requires.ranked; hidden = c.requires.hidden; within = c.loop-depth.invariant.within }

pub loop-depth-preserved : goal.loop-depth-preserved
loop-depth-preserved g c =
    let e = c.args.executing.now in
    let root = root_stand c.args.root_type.now e.operation.now.selection_set.selections in
    level-next (request_in e c.args.answers.now) e root c.loop-depth._depth (stands_of c.loop-depth.level) (stands_of c.in_ok-level-2.level) c.loop-depth.asks c.next_level.new.asks
    c.loop-depth.invariant c.in_ok-level-2.ensures.below c.in_ok-level-2.ensures.asks c.in_ok-level-2.ensures.within

pub returns-then-is_empty : goal.returns-then-is_empty
returns-then-is_empty g c =
    let e = c.args.executing.now in
    let root = root_stand c.args.root_type.now e.operation.now.selection_set.selections in
    let none : c.loop-depth.level ≡ [] = search rules in
    record {
      depth = c.loop-depth._depth;
      ends = level-ended (request_in e c.args.answers.now) e root c.loop-depth._depth (stands_of c.loop-depth.level) c.loop-depth.asks
          (ap stands_of none) c.loop-depth.invariant;
      are = c.loop-depth.invariant.noted;
    }

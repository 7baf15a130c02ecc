use Rattle.std.proofs.Common.{arith, ◌≤◌, length, take, take_all, sym, ap, subst}
use Rattle.gql_rounds.specs.bridge.Walked.{request_of, stand_of, stands_of}
use Rattle.gql_rounds.proofs.Visits.{IsOnLevel, level-begun, level-more, take-stand, visit-within}
use Rattle.gql_rounds.proofs.walk.Walk.next_level.Goals as goal

pub loop-number-init : goal.loop-number-init
loop-number-init g c = level-begun (request_of c.args.self.now) c.args.self.now.executing (stands_of c.new-below.result) c.args.asks.now (ap stands_of c.new-below.ensures)

pub visit-requires : goal.visit-requires
visit-requires g c = record {
  ranked = c.requires.ranked;
  hidden = c.requires.hidden;
  within = visit-within c.args.self.now.executing c.args.level.now c.loop-number.number c.in-Some.visit.now (sym c.in-Some.ensures) c.requires.within;
}

pub loop-number-preserved : goal.loop-number-preserved
loop-number-preserved g c =
    let r = request_of c.args.self.now in
    let e = c.args.self.now.executing in
    let visits = c.args.level.now in
    let i = c.loop-number.number in
    let visit = c.in-Some.visit.now in
    subst (λ passed. IsOnLevel r e (stands_of c.visit.new.below) passed c.visit.new.asks c.args.asks.now) (sym (take-stand visits i visit (sym c.in-Some.ensures)))
    (level-more r e (stands_of c.loop-number.below) (stands_of c.visit.new.below) (stands_of (take i visits)) (stand_of visit) c.loop-number.asks c.visit.new.asks c.args.asks.now
    c.loop-number.invariant c.in_ok-visit.ensures.below c.in_ok-visit.ensures.asks c.in_ok-visit.ensures.within)

pub returns : goal.returns
returns g c =
    let r = request_of c.args.self.now in
    let e = c.args.self.now.executing in
    let visits = c.args.level.now in
    let i = c.loop-number.number in
    let past : length visits ≤ i = omega (arith, c.len-number-end.ensures, c.loop-number-test.false, c.loop-number.auto.number-end) in
    let all = subst (λ passed. IsOnLevel r e (stands_of c.loop-number.below) (stands_of passed) c.loop-number.asks c.args.asks.now) (take_all i visits past) c.loop-number.invariant in
    record { below = all.grows; asks = all.noted; within = all.within }

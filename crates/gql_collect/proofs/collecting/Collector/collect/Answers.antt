use Rattle.std.proofs.Common.{arith, ap, sym, subst}
use Rattle.gql_collect.specs.bridge.Collected.{setting_of}
use Rattle.gql_collect.specs.Sizes.{outer_size}
use Rattle.gql_collect.specs.Walk.{fields_of}
use Rattle.gql_collect.specs.bridge.Walk.{walk_of, lists_of}
use Rattle.gql_collect.proofs.OnTheWay.{IsOnTheWay, way_begins, begins_within, goes_on, weighs_less, looks_less, outer_less, looks-left, way_ends}
use Rattle.gql_collect.proofs.collecting.Collector.collect.Goals as goal

pub loop-list-init : goal.loop-list-init
loop-list-init g c =
    let s = setting_of c.args.self.now in
    record {
      way = subst (λ fields. IsOnTheWay s c.args.marks.now (lists_of c.args.pending) (walk_of c.args.marks.now c.args.pending fields)) (sym c.new-fields.ensures)
          (way_begins s c.args.marks.now (lists_of c.args.pending));
      looks = omega (arith, begins_within s c.args.marks.now (lists_of c.args.pending) (fields_of c.new-fields.result));
      rises = omega arith;
      counted = omega arith;
    }

pub loop-list-smaller : goal.loop-list-smaller
loop-list-smaller g c =
    weighs_less (setting_of c.args.self.now) c.loop-list.marks c.loop-list.pending c.pop.new.self c.loop-list.fields c.in-Some.list _ c.in-Some.ensures.last c.in_ok-take_first.ensures.walk

pub loop-list-preserved : goal.loop-list-preserved
loop-list-preserved g c =
    let s = setting_of c.args.self.now in
    let less = looks_less s c.loop-list.marks c.loop-list.pending c.pop.new.self c.loop-list.fields c.in-Some.list _ c.in-Some.ensures.last c.in_ok-take_first.ensures.walk in
    let outer = outer_less s c.loop-list.marks c.loop-list.pending c.pop.new.self c.loop-list.fields c.in-Some.list _ c.in-Some.ensures.last c.in_ok-take_first.ensures.walk in
    record {
      way = goes_on s c.loop-list.marks c.loop-list.pending c.pop.new.self c.loop-list.fields c.in-Some.list _ c.in-Some.ensures.last c.in_ok-take_first.ensures.walk
          c.args.marks.now (lists_of c.args.pending) c.loop-list.invariant.way;
      looks = omega (arith, less, c.take_first.ensures.looks, c.loop-list.invariant.looks);
      rises = omega (arith, c.take_first.ensures.looks, c.loop-list.invariant.rises);
      counted = omega (arith, outer, c.take_first.ensures.looks, c.loop-list.invariant.counted);
    }

pub returns-in_err-take_first-clause-looks : goal.returns-in_err-take_first-clause-looks
returns-in_err-take_first-clause-looks g c =
    omega (
      arith,
      looks-left (setting_of c.args.self.now) c.loop-list.marks c.loop-list.pending c.pop.new.self c.loop-list.fields c.in-Some.list c.in-Some.ensures.last,
      c.take_first.ensures.looks,
      c.loop-list.invariant.looks,
    )

pub returns-in_err-take_first-clause-rises : goal.returns-in_err-take_first-clause-rises
returns-in_err-take_first-clause-rises g c = omega (arith, c.take_first.ensures.looks, c.loop-list.invariant.rises)

pub returns-clause-fields : goal.returns-clause-fields
returns-clause-fields g c =
    way_ends (setting_of c.args.self.now) c.args.marks.now (lists_of c.args.pending) c.loop-list.marks c.loop-list.pending c.loop-list.fields c.in_default.ensures.empty c.loop-list.invariant.way

pub returns-clause-looks : goal.returns-clause-looks
returns-clause-looks g c = omega (arith, c.loop-list.invariant.looks)

pub returns-clause-rises : goal.returns-clause-rises
returns-clause-rises g c = c.loop-list.invariant.rises

pub returns-clause-counted : goal.returns-clause-counted
returns-clause-counted g c =
    omega (arith, c.loop-list.invariant.counted, ap (λ pending. outer_size (lists_of pending)) c.in_default.ensures.empty)

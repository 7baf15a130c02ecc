use Rattle.std.proofs.Common.{arith, ◌≤◌, ◌+◌, length, drop, refl, sym, subst}
use Rattle.std.proofs.lemmas.List.{length-map}
use Rattle.gql_collect.specs.Collected.{sets_of}
use Rattle.gql_collect.specs.Plan.{field_in, fields_in, groups_in}
use Rattle.gql_collect.specs.bridge.Plan.{Ground, ArePartsOf, IsWithin}
use Rattle.gql_collect.specs.declared.planned_field.PlannedField.{PlannedField}
use Rattle.gql_document_types.specs.Ranks.{AreRanked}
use Rattle.gql_exec.proofs.Collecting.{views-end}
use Rattle.gql_exec.proofs.Planned.{here}
use Rattle.gql_exec.proofs.Views.{views}
use Rattle.gql_rounds.specs.Known.{type_of_entity}
use Rattle.gql_rounds.specs.ToldMeaning.{told}
use Rattle.gql_rounds.specs.bridge.Walked.{request_of, stand_of, stands_of}
use Rattle.gql_rounds.proofs.Visits.{visited-asks, visited-below, visited-grows, visited-wanted, visited-within, visiting-begun, visiting-more}
use Rattle.gql_rounds.proofs.walk.Walk.visit.Goals as goal

pub parts-requires : goal.parts-requires
parts-requires g c = record {
  ranked = (c.requires.ranked.0, subst (λ (it : Ground). AreRanked it.fragments c.requires.ranked.0) (sym c.planner-planner.ensures) c.requires.ranked.1);
  within = subst (λ (it : Ground). IsWithin it (sets_of c.args.visit.now.pieces)) (sym c.planner-planner.ensures) c.requires.within;
}

pub loop-number-init : goal.loop-number-init
loop-number-init g c =
    visiting-begun (request_of c.args.self.now) c.args.visit.now.object_type.now (stand_of c.args.visit.now).object (stands_of c.args.below.now) c.args.asks.now
    (views (groups_in c.in_ok-parts.parts)) (views (groups_in c.in_ok-parts.parts)) refl

pub field-requires : goal.field-requires
field-requires g c =
    let e = c.args.self.now.executing in
    let U = c.args.visit.now.object_type.now in
    let sets = sets_of c.args.visit.now.pieces in
    let parts = c.in_ok-parts.parts in
    let planned = subst (λ it. ArePartsOf it U sets parts) c.planner-planner.ensures c.in_ok-parts.ensures.parts in
    let at = here e type_of_entity told U c.requires.ranked.0 c.requires.ranked.1 sets parts parts c.loop-number.number c.in-Some.part.now planned refl planned.1 (sym c.in-Some.ensures) in
    record { hidden = c.requires.hidden; planned = at.asked; defined = at.defined }

pub loop-number-preserved : goal.loop-number-preserved
loop-number-preserved g c =
    let e = c.args.self.now.executing in
    let U = c.args.visit.now.object_type.now in
    let x = (stand_of c.args.visit.now).object in
    let sets = sets_of c.args.visit.now.pieces in
    let parts = c.in_ok-parts.parts in
    let planned = subst (λ it. ArePartsOf it U sets parts) c.planner-planner.ensures c.in_ok-parts.ensures.parts in
    let at = here e type_of_entity told U c.requires.ranked.0 c.requires.ranked.1 sets parts parts c.loop-number.number c.in-Some.part.now planned refl planned.1 (sym c.in-Some.ensures) in
    visiting-more (request_of c.args.self.now) U x (stands_of c.loop-number.below) (stands_of c.field.new.below) (stands_of c.args.below.now)
    c.loop-number.asks c.field.new.asks c.args.asks.now (views (drop c.loop-number.number (groups_in parts))) (views (drop (c.loop-number.number + 1) (groups_in parts)))
    (views (groups_in parts)) _ at.first c.in_ok-field.ensures.below c.in_ok-field.ensures.asks c.loop-number.invariant

pub returns : goal.returns
returns g c =
    let self = c.args.self.now in
    let e = self.executing in
    let r = request_of self in
    let U = c.args.visit.now.object_type.now in
    let x = (stand_of c.args.visit.now).object in
    let sets = sets_of c.args.visit.now.pieces in
    let parts = c.in_ok-parts.parts in
    let groups = groups_in parts in
    let i = c.loop-number.number in
    let planned = subst (λ it. ArePartsOf it U sets parts) c.planner-planner.ensures c.in_ok-parts.ensures.parts in
    let past : length groups ≤ i =
    omega (arith, length-map (fields_in parts) (λ (field : PlannedField). field.group), length-map parts field_in, c.len-number-end.ensures, c.loop-number-test.false, c.loop-number.auto.number-end) in
    let end = views-end groups i past in
    let added = visited-below r U x (stands_of c.loop-number.below) (stands_of c.args.below.now) c.loop-number.asks c.args.asks.now (views (drop i groups)) (views groups) end c.loop-number.invariant in
    record {
      below = visited-grows r U x groups sets planned.0.groups (stands_of c.loop-number.below) (stands_of c.args.below.now) added;
      asks = visited-wanted r U x groups sets planned.0.groups c.loop-number.asks c.args.asks.now
          (visited-asks r U x (stands_of c.loop-number.below) (stands_of c.args.below.now) c.loop-number.asks c.args.asks.now (views (drop i groups)) (views groups) end c.loop-number.invariant);
      within = visited-within r e U x parts (stands_of c.loop-number.below) (stands_of c.args.below.now) planned.1 added;
    }

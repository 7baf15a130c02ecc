use Rattle.std.proofs.Common.{◌≡◌, ◌++◌, if◌then◌else◌, [], refl, sym, ap, ◌∙◌}
use Rattle.indexmap.proofs.MapLemmas.{OnOk-map}
use Rattle.gql_exec.specs.bridge.Asking.{outcome_of}
use Rattle.gql_exec.specs.Asks.{asks, fault_of}
use Rattle.gql_exec.specs.Trails.{group_of}
use Rattle.gql_resolvers.specs.Resolved.{answered, fails_with, refused}
use Rattle.gql_rounds.specs.Known.{entity_of}
use Rattle.gql_rounds.specs.Levels.{below_group, given}
use Rattle.gql_rounds.specs.bridge.Walked.{known_meaning, request_of, stand_of, stands_of, world_of}
use Rattle.gql_rounds.specs.Wanted.{ask_for, is_skip, wanted_by_group}
use Rattle.gql_rounds.specs.bridge.Wanted.{all_noted}
use Rattle.gql_rounds.proofs.Fields.{gave-below, gave-wanted, known-asked, nothing-below, nothing-wanted}
use Rattle.gql_rounds.proofs.Meanings.{known_outcome}
use Rattle.gql_rounds.proofs.walk.Walk.field.Goals as goal

pub returns-in-Gave : goal.returns-in-Gave
returns-in-Gave c =
    let self = c.args.self.now in
    let visit = c.args.visit.now in
    let r = request_of self in
    let U = visit.object_type.now in
    let x = (stand_of visit).object in
    let g = group_of c.args.field.now.group in
    let definition = c.args.field.now.definition.now in
    let m = known_meaning c.in-Gave.resolved in
    let old = stands_of c.args.below.now in
    let new = stands_of c.gave.new.below in
    let comes = known-asked self.executing c.requires.hidden self.answers.now U x g.first c.in_ok-asked.asked c.in_ok-asked.ensures in
    let gives : answered m ≡ asks r U x g.first = ap (λ a. known_outcome (outcome_of entity_of a)) (sym c.in-Gave.is) ∙ comes in
    record {
      below = OnOk-map c.gave.result (new ≡ old ++ given (world_of self) g.pieces definition.ty m) (new ≡ old ++ below_group (world_of self) U x g)
          (λ is. gave-below r U x g definition m c.requires.planned.definition gives new old is) c.gave.ensures.below;
      asks = OnOk-map c.gave.result (c.gave.new.asks ≡ all_noted c.args.asks.now (if is_skip m then ask_for r U x g.first else []))
          (c.gave.new.asks ≡ all_noted c.args.asks.now (wanted_by_group r U x g))
          (λ is. gave-wanted r U x g m gives c.gave.new.asks c.args.asks.now is) c.gave.ensures.asks;
    }

pub returns-in-Failed : goal.returns-in-Failed
returns-in-Failed c =
    let self = c.args.self.now in
    let visit = c.args.visit.now in
    let r = request_of self in
    let U = visit.object_type.now in
    let x = (stand_of visit).object in
    let g = group_of c.args.field.now.group in
    let comes = known-asked self.executing c.requires.hidden self.answers.now U x g.first c.in_ok-asked.asked c.in_ok-asked.ensures in
    let fails = ap (λ a. known_outcome (outcome_of entity_of a)) (sym c.in-Failed.is) ∙ comes in
    record {
      below = nothing-below r U x g (answered (fails_with _)) fails (λ ty. refl) (stands_of c.args.below.now);
      asks = nothing-wanted r U x g (answered (fails_with _)) fails refl c.args.asks.now;
    }

pub returns : goal.returns
returns c =
    let self = c.args.self.now in
    let visit = c.args.visit.now in
    let r = request_of self in
    let U = visit.object_type.now in
    let x = (stand_of visit).object in
    let g = group_of c.args.field.now.group in
    let comes = known-asked self.executing c.requires.hidden self.answers.now U x g.first c.in_ok-asked.asked c.in_ok-asked.ensures in
    let fails = ap (λ a. known_outcome (outcome_of entity_of a)) (sym c.in-Refused.is) ∙ comes in
    record {
      below = nothing-below r U x g (refused (fault_of _)) fails (λ ty. refl) (stands_of c.args.below.now);
      asks = nothing-wanted r U x g (refused (fault_of _)) fails refl c.args.asks.now;
    }

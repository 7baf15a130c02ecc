use Rattle.std.proofs.Common.{◌≡◌, ◌++◌, if◌then◌else◌, [], sym, ap, ◌∙◌}
use Rattle.indexmap.proofs.MapLemmas.{OnOk-map}
use Rattle.gql_collect.proofs.Lists.{ok-anyway}
use Rattle.gql_exec.specs.Mapped.{all_mapped, mapped}
use Rattle.gql_exec.proofs.Values.{meaning-leaf, meaning-object, meaning-skip}
use Rattle.gql_exec.specs.Trails.{group_of}
use Rattle.gql_resolvers.proofs.Views.{meaning_list}
use Rattle.gql_resolvers.specs.Meaning.{meanings_by}
use Rattle.gql_resolvers.specs.Resolved.{Meaning, gives_list, gives_object, gives_skip}
use Rattle.gql_rounds.specs.Known.{Known, entity_of}
use Rattle.gql_rounds.specs.Levels.{given}
use Rattle.gql_rounds.specs.bridge.Walked.{known_in, known_meaning, request_of, stand_of, stands_of, world_of}
use Rattle.gql_rounds.specs.Wanted.{ask_for, is_skip}
use Rattle.gql_rounds.specs.bridge.Wanted.{all_noted}
use Rattle.gql_rounds.proofs.Fields.{none-added}
use Rattle.gql_rounds.proofs.walk.Walk.gave.Goals as goal

pub returns-in-Leaf : goal.returns-in-Leaf
returns-in-Leaf c =
    let self = c.args.self.now in
    let visit = c.args.visit.now in
    let g = group_of c.args.field.now.group in
    let ty = c.args.field.now.definition.now.ty in
    let known = ap known_meaning c.in-Leaf.is ∙ ap (mapped known_in) (meaning-leaf entity_of _) in
    record {
      below = none-added (stands_of c.args.below.now) (given (world_of self) g.pieces ty (known_meaning c.args.resolved.now)) (ap (given (world_of self) g.pieces ty) known);
      asks = ap (λ (m : Meaning Known). all_noted c.args.asks.now (if is_skip m then ask_for (request_of self) visit.object_type.now (stand_of visit).object g.first else [])) (sym known);
    }

pub returns-in-Object : goal.returns-in-Object
returns-in-Object c =
    let self = c.args.self.now in
    let visit = c.args.visit.now in
    let g = group_of c.args.field.now.group in
    let ty = c.args.field.now.definition.now.ty in
    let w = world_of self in
    let x = (entity_of c.in-Object.object).known in
    let known : known_meaning c.args.resolved.now ≡ gives_object x = ap known_meaning c.in-Object.is ∙ ap (mapped known_in) (meaning-object entity_of _) in
    let old = stands_of c.args.below.now in
    let new = stands_of c.enter_object.new.below in
    record {
      below = OnOk-map c.enter_object.result (new ≡ old ++ given w g.pieces ty (gives_object x)) (new ≡ old ++ given w g.pieces ty (known_meaning c.args.resolved.now))
          (λ is. is ∙ ap (λ (m : Meaning Known). old ++ given w g.pieces ty m) (sym known)) c.enter_object.ensures;
      asks = ok-anyway c.enter_object.result _
          (ap (λ (m : Meaning Known). all_noted c.args.asks.now (if is_skip m then ask_for (request_of self) visit.object_type.now (stand_of visit).object g.first else [])) (sym known));
    }

pub returns-in-List : goal.returns-in-List
returns-in-List c =
    let self = c.args.self.now in
    let visit = c.args.visit.now in
    let g = group_of c.args.field.now.group in
    let ty = c.args.field.now.definition.now.ty in
    let w = world_of self in
    let ms = all_mapped known_in (meanings_by entity_of c.in-List.items) in
    let known : known_meaning c.args.resolved.now ≡ gives_list ms = ap known_meaning c.in-List.is ∙ ap (mapped known_in) (meaning_list entity_of _) in
    let old = stands_of c.args.below.now in
    let new = stands_of c.enter_list.new.below in
    record {
      below = OnOk-map c.enter_list.result (new ≡ old ++ given w g.pieces ty (gives_list ms)) (new ≡ old ++ given w g.pieces ty (known_meaning c.args.resolved.now))
          (λ is. is ∙ ap (λ (m : Meaning Known). old ++ given w g.pieces ty m) (sym known)) c.enter_list.ensures;
      asks = ok-anyway c.enter_list.result _
          (ap (λ (m : Meaning Known). all_noted c.args.asks.now (if is_skip m then ask_for (request_of self) visit.object_type.now (stand_of visit).object g.first else [])) (sym known));
    }

pub returns-in-SkipForPartialExecution : goal.returns-in-SkipForPartialExecution
returns-in-SkipForPartialExecution c =
    let self = c.args.self.now in
    let visit = c.args.visit.now in
    let g = group_of c.args.field.now.group in
    let ty = c.args.field.now.definition.now.ty in
    let w = world_of self in
    let wanted = ask_for (request_of self) visit.object_type.now (stand_of visit).object g.first in
    let known : known_meaning c.args.resolved.now ≡ gives_skip = ap known_meaning c.in-SkipForPartialExecution.is ∙ ap (mapped known_in) (meaning-skip entity_of) in
    record {
      below = ok-anyway c.want.result _ (none-added (stands_of c.args.below.now) (given w g.pieces ty (known_meaning c.args.resolved.now)) (ap (given w g.pieces ty) known));
      asks = OnOk-map c.want.result (c.want.new.asks ≡ all_noted c.args.asks.now wanted)
          (c.want.new.asks ≡ all_noted c.args.asks.now (if is_skip (known_meaning c.args.resolved.now) then wanted else []))
          (λ is. is ∙ ap (λ (m : Meaning Known). all_noted c.args.asks.now (if is_skip m then wanted else [])) (sym known)) c.want.ensures;
    }

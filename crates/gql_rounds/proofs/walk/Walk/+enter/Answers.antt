use Rattle.std.proofs.Common.{◌≡◌, ◌++◌, sym, ap, ◌∙◌}
use Rattle.indexmap.proofs.MapLemmas.{OnOk-map}
use Rattle.gql_exec.specs.Mapped.{all_mapped, mapped}
use Rattle.gql_exec.specs.Trails.{group_of}
use Rattle.gql_resolvers.proofs.Views.{meaning_list}
use Rattle.gql_resolvers.specs.Meaning.{meanings_by}
use Rattle.gql_resolvers.specs.Resolved.{Meaning, gives_list}
use Rattle.gql_rounds.specs.Known.{Known, entity_of}
use Rattle.gql_rounds.specs.Levels.{given}
use Rattle.gql_rounds.specs.bridge.Walked.{known_in, known_meaning, stands_of, world_of}
use Rattle.gql_rounds.proofs.Entering.{entering-more}
use Rattle.gql_rounds.proofs.walk.Walk.+enter.Goals as goal

pub enter-returns-in-List : goal.enter-returns-in-List
enter-returns-in-List t c =
    let w = world_of c.args.self.now in
    let g = group_of c.args.field.now.group in
    let ty = c.args.ty.now in
    let ms = all_mapped known_in (meanings_by entity_of c.in-List.items) in
    let known : known_meaning c.args.resolved.now ≡ gives_list ms = ap known_meaning c.in-List.is ∙ ap (mapped known_in) (meaning_list entity_of _) in
    let old = stands_of c.args.below.now in
    let new = stands_of c.enter_list.new.below in
    OnOk-map c.enter_list.result (new ≡ old ++ given w g.pieces ty (gives_list ms)) (new ≡ old ++ given w g.pieces ty (known_meaning c.args.resolved.now))
    (λ is. is ∙ ap (λ (m : Meaning Known). old ++ given w g.pieces ty m) (sym known)) c.enter_list.ensures

pub enter_items-loop-number-preserved : goal.enter_items-loop-number-preserved
enter_items-loop-number-preserved t c =
    entering-more (world_of c.args.self.now) (group_of c.args.field.now.group).pieces c.args.ty.now (stands_of c.loop-number.below) (stands_of c.enter_item.new.below)
    (stands_of c.args.below.now) c.args.items.now c.loop-number.number c.in-Some.item.now (sym c.in-Some.ensures) c.in_ok-enter_item.ensures c.loop-number.invariant

use Rattle.std.proofs.Common.{◌≡◌, ◌-◌, [], reverse, refl, sym, arith}
use Rattle.std.proofs.lemmas.List.{nil_from_length}
use Rattle.std.proofs.lemmas.Result.{IfOk-weaker}
use Rattle.gql_grammar.specs.Row.{level}
use Rattle.gql_cst.proofs.Driven.{turn-symbol, turn-closed}
use Rattle.gql_cst.proofs.Frames.{framed-off, way-loose}
use Rattle.gql_cst.proofs.machine.Machine.turn.Goals as goal

pub enter_way-requires : goal.enter_way-requires
enter_way-requires g c = way-loose c.in-Some-repeated_way.rule c.args.next c.in-Some-repeated_way.way.now (sym c.in-Some-repeated_way.ensures.way)

pub returns-in_ok-end-in-None : goal.returns-in_ok-end-in-None
returns-in_ok-end-in-None g c =
    let m = c.args.self.now in
    let top = c.skip_ended.new.top in
    let way : top.way.now ≡ [] = nil_from_length top.way.now c.in-None.ensures.cases in
    let low : c.saturating_sub-self.result ≡ m.level - level c.in-Some-kind.kind = omega (arith, c.saturating_sub-self.ensures, c.level_of.ensures) in
    turn-closed g.O.Output.stands m (record m { top = top; outer = c.skip_ended.new.outer; framed = c.skip_ended.ensures.same.framed m.framed }) _ c.args.next c.in-Some-kind.kind c.args.place
    (record { frames = c.skip_ended.ensures.same; out = refl; level = refl; deepest = refl }) way c.in-Some-kind.is c.in_ok-end-in-None.ensures c.leave-self.ensures low refl

pub invariant_of-self-in-Some : goal.invariant_of-self-in-Some
invariant_of-self-in-Some g c =
    let top = c.skip_ended.new.top in
    let off = framed-off top (reverse c.skip_ended.new.outer.items) c.in-Some.symbol.now c.in-Some.rest.now c.in-Some.ensures.cases.0 (c.skip_ended.ensures.same.framed c.args.self.now.framed) in
    record { framed = off.1 }

pub act-requires-clause-loose : goal.act-requires-clause-loose
act-requires-clause-loose g c =
    let top = c.skip_ended.new.top in
    (framed-off top (reverse c.skip_ended.new.outer.items) c.in-Some.symbol.now c.in-Some.rest.now c.in-Some.ensures.cases.0 (c.skip_ended.ensures.same.framed c.args.self.now.framed)).0

pub returns-in_default : goal.returns-in_default
returns-in_default g c =
    let m = c.args.self.now in
    let n = record m { top = c.skip_ended.new.top; outer = c.skip_ended.new.outer; framed = c.skip_ended.ensures.same.framed m.framed } in
    IfOk-weaker c.act.result _ _
    (λ turn goes. turn-symbol g.O.Output.stands m n _ _ c.args.next c.in-Some.symbol.now turn c.args.place (record { frames = c.skip_ended.ensures.same; out = refl; level = refl; deepest = refl })
    c.in-Some.ensures.cases.0 refl refl refl refl refl refl goes) c.act.ensures

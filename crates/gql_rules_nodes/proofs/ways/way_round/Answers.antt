use Rattle.std.proofs.Common.{◌≡◌, ◌++◌, ◌+◌, ◌-◌, sym, ap, ◌∙◌, append_assoc, arith}
use Rattle.std.proofs.lemmas.List.{append-nil}
use Rattle.gql_rules_nodes.specs.WayRound.{named, next, further, way_on}
use Rattle.gql_rules_nodes.proofs.OneName.{name_more, none_more}
use Rattle.gql_rules_nodes.proofs.ways.way_round.Goals as goal

pub loop-name-preserved : goal.loop-name-preserved
loop-name-preserved c =
    let nexts = c.args.nexts.now in
    let start = c.args.start in
    let i = c.loop-name._name in
    let way = c.loop-name.way in
    let one = named (next nexts c.loop-name.at) in
    ap (λ w. w ++ way_on nexts start (32 - (i + 1)) c.in_ok-at.at) c.in_ok-at.ensures.way
    ∙ ap (λ a. (way ++ one) ++ way_on nexts start (32 - (i + 1)) a) c.in_ok-at.ensures.at
    ∙ append_assoc way one (way_on nexts start (32 - (i + 1)) (further start (next nexts c.loop-name.at)))
    ∙ ap (λ l. way ++ l) (sym (name_more nexts start i c.loop-name.at (omega arith)))
    ∙ c.loop-name.invariant

pub returns : goal.returns
returns c =
    let nexts = c.args.nexts.now in
    let start = c.args.start in
    let way = c.loop-name.way in
    let done : 0 ≡ 32 - c.loop-name._name = omega arith in
    sym (append-nil way) ∙ ap (λ l. way ++ l) (sym (none_more nexts start c.loop-name.at)) ∙ ap (λ n. way ++ way_on nexts start n c.loop-name.at) done ∙ c.loop-name.invariant

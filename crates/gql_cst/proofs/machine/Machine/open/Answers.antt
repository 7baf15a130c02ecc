use Rattle.std.proofs.Common.{◌+◌, ◌∙◌, ap, refl, rules}
use Rattle.gql_cst.proofs.Driven.{opened-held}
use Rattle.gql_cst.proofs.machine.Machine.open.Goals as goal

pub returns : goal.returns
returns g c =
    opened-held g.O.Output.stands c.args.self.now _ c.args.kind c.args.place refl refl c.in_ok-push.ensures.items (λ os waiting. c.in_ok-mark.ensures os waiting c.requires.node)
    (c.in_ok-level.ensures ∙ ap (λ n. c.args.self.now.level + n) c.level_of.ensures) (search rules)

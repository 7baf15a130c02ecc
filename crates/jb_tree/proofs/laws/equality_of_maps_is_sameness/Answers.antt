use Rattle.std.proofs.Common.{◌∙◌, sym}
use Rattle.jb_tree.proofs.Sameness.{maps_decide}
use Rattle.jb_tree.proofs.laws.equality_of_maps_is_sameness.Goals as goal

pub returns : goal.returns
returns c =
    let decided = maps_decide c.args.one.now c.args.other.now in
    (λ t. decided.0 (sym c.eq.ensures ∙ t), λ s. c.eq.ensures ∙ decided.1 s)

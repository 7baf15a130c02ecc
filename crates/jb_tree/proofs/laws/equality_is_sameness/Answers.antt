use Rattle.std.proofs.Common.{◌∙◌, sym}
use Rattle.jb_tree.proofs.Equality.{equality_decides}
use Rattle.jb_tree.proofs.laws.equality_is_sameness.Goals as goal

pub returns : goal.returns
returns c =
    let decided = equality_decides c.args.a.now c.args.b.now in
    (λ t. decided.0 (sym c.eq.ensures ∙ t), λ s. c.eq.ensures ∙ decided.1 s)

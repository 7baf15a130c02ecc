use Rattle.jb_tree.proofs.Equality.{equality_decides}
use Rattle.jb_tree.proofs.Sameness.{maps_decide}
use Rattle.jb_tree.proofs.laws.equality_decides_sameness.Goals as goal

pub returns : goal.returns
returns c = record { values = λ a b. equality_decides a b; maps = maps_decide }

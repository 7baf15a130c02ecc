use Rattle.jb_tree.specs.contracts.value.ValueHash.TheImpl.Laws as hash_laws
use Rattle.jb_tree.proofs.Equality.{equality_decides}
use Rattle.jb_tree.proofs.laws.the_same_is_hashed_alike.Goals as goal

pub returns : goal.returns
returns c a b same = hash_laws.respects_eq-law a b ((equality_decides a b).1 same)

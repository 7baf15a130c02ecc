use Rattle.std.proofs.Common.{IsSome, sym, subst, ◌<◌, length, arith}
use Rattle.jb_tree.specs.Index.{item_at}
use Rattle.jb_tree.specs.declared.value.Value.{Value}
use Rattle.jb_tree.proofs.Members.{there-item}
use Rattle.jb_tree.proofs.index.test_item.Goals as goal

pub returns-in-Array-clause-there : goal.returns-in-Array-clause-there
returns-in-Array-clause-there c =
    let within : c.args.place < length c.in-Array.items = omega (arith, c.len.ensures, c.if-place-len.true) in
    subst (λ (v : Value). IsSome (item_at c.args.place v)) (sym c.in-Array.is) (there-item c.in-Array.items c.args.place within)

use Rattle.std.proofs.Common.{refl, arith}
use Rattle.std_collections.proofs.Entries.{length-set_value_at}
use Rattle.jb_map.proofs.EntryLemmas.{occupied_written}
use Rattle.jb_map.proofs.entry.OccupiedEntry.get_mut.Goals as goal

pub invariant_of-self-lent : goal.invariant_of-self-lent
invariant_of-self-lent g c w =
    let o = c.args.self.now in
    (omega (arith, o.within, length-set_value_at o.map.now o.index w), tt)

pub returns : goal.returns
returns g c =
    ((refl, λ w. occupied_written c.args.self.now w _), record { writes_back = tt; value = c.value_mut_at.ensures.value })

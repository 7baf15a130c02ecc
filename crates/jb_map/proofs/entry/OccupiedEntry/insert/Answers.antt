use Rattle.std.proofs.Common.{arith}
use Rattle.std_collections.proofs.Entries.{length-set_value_at}
use Rattle.jb_map.proofs.entry.OccupiedEntry.insert.Goals as goal

pub invariant_of-self : goal.invariant_of-self
invariant_of-self g c =
    let o = c.args.self.now in
    record { within = omega (arith, o.within, length-set_value_at o.map.now o.index c.replace.new.dest) }

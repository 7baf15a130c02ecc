use Rattle.std.proofs.Common.{◌≡◌, inl}
use Rattle.jb_map.proofs.EntryLemmas.{last_written, last_value}
use Rattle.jb_map.proofs.entry.VacantEntry.insert.Goals as goal

pub returns-in-Ok : goal.returns-in-Ok
returns-in-Ok g c =
    let es = c.args.self.map.now in
    let pushed = c.in-Ok.ensures.pairs in
    let end = c.len-index.ensures.value in
    let put = last_value es c.insert_new.new.self c.len-index.result c.args.self.key c.args.value pushed end in
    let read = c.value_mut_at.ensures.value in
    let is : c.value_mut_at.result.now ≡ c.args.value = cc in (
      λ j. inl (c.value_mut_at.result.ghost_name, λ w. last_written es c.insert_new.new.self c.len-index.result c.args.self.key c.args.value pushed end w j),
      record { writes_back = tt; value = is },
    )

use Rattle.jb_read.proofs.Sound.{front_sound}
use Rattle.jb_read.proofs.Complete.{front_complete}
use Rattle.jb_read.proofs.laws.fronts_are_read.Goals as goal

pub returns : goal.returns
returns c = record { sound = front_sound; complete = front_complete }

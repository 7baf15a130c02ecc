use Rattle.jb_read.proofs.Sound.{whole_sound}
use Rattle.jb_read.proofs.Complete.{whole_complete}
use Rattle.jb_read.proofs.laws.texts_are_read.Goals as goal

pub returns : goal.returns
returns c = record { sound = whole_sound; complete = whole_complete }

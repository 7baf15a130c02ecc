use Rattle.jb_read.proofs.Breaks.{faults_sound, faults_complete}
use Rattle.jb_read.proofs.laws.faults_are_refused.Goals as goal

pub returns : goal.returns
returns c = record { sound = faults_sound; complete = faults_complete }

use Rattle.jb_read.proofs.Breaks.{front_faults_sound, front_faults_complete}
use Rattle.jb_read.proofs.laws.front_faults_are_refused.Goals as goal

pub returns : goal.returns
returns c = record { sound = front_faults_sound; complete = front_faults_complete }

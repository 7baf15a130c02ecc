use Rattle.jb_read.proofs.Answered.{one_of_front, one_front, one_front_fault, not_both_front}
use Rattle.jb_read.proofs.laws.each_front_has_one_answer.Goals as goal

pub returns : goal.returns
returns c = record { one = one_of_front; value = one_front; fault = one_front_fault; not_both = not_both_front }

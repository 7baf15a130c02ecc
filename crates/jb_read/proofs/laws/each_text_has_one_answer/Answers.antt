use Rattle.jb_read.proofs.Answered.{one_of, one_value, one_fault, not_both}
use Rattle.jb_read.proofs.laws.each_text_has_one_answer.Goals as goal

pub returns : goal.returns
returns c = record { one = one_of; value = one_value; fault = one_fault; not_both = not_both }

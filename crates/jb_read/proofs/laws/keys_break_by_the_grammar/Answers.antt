use Rattle.jb_read.proofs.ScalarBreaks.{key_breaks, key_stops}
use Rattle.jb_read.proofs.laws.keys_break_by_the_grammar.Goals as goal

pub returns : goal.returns
returns c = record { sound = key_breaks; complete = key_stops }

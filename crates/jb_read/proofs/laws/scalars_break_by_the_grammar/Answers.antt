use Rattle.jb_read.proofs.ScalarBreaks.{scalar_breaks, scalar_stops}
use Rattle.jb_read.proofs.laws.scalars_break_by_the_grammar.Goals as goal

pub returns : goal.returns
returns c = record { sound = scalar_breaks; complete = scalar_stops }

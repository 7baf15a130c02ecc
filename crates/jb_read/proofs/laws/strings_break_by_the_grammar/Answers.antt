use Rattle.jb_read.proofs.StringBreaks.{string_breaks}
use Rattle.jb_read.proofs.StringStops.{string_stops}
use Rattle.jb_read.proofs.laws.strings_break_by_the_grammar.Goals as goal

pub returns : goal.returns
returns c = record { sound = string_breaks; complete = string_stops }

-- The counter is over a ledger of its own.
use Rattle.tests_engine.proofs.in_memory.is_as_said.Given as goal

abbrev pub ghosts-counted : goal.ghosts-counted
ghosts-counted a = record { name = a.blank.name; parts = a.blank.parts }

-- The counter is over a ledger of its own.
use Rattle.tests_engine.proofs.runs.ran_in_pieces.Given as goal

abbrev pub ghosts-counted : goal.ghosts-counted
ghosts-counted a = record { name = a.blank.name; parts = a.blank.parts }

-- The counter is over a ledger of its own.
use Rattle.gql_checker.proofs.checking.check_prepared.Given as goal

abbrev pub ghosts-check_alone : goal.ghosts-check_alone
ghosts-check_alone g a = record { name = a.blank.name; parts = a.blank.parts }

-- The counter is over a ledger of its own.
use Rattle.gql_response_check.proofs.check.Request.check.Given as goal

abbrev pub ghosts-check_alone : goal.ghosts-check_alone
ghosts-check_alone g a = record { name = a.blank.name; parts = a.blank.parts }

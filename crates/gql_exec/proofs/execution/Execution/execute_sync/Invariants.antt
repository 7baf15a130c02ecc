-- The counter is over a ledger of its own.
use Rattle.gql_exec.proofs.execution.Execution.execute_sync.Given as goal

abbrev pub ghosts-execute_alone : goal.ghosts-execute_alone
ghosts-execute_alone g a = record { name = a.blank.name; parts = a.blank.parts }

-- The counter is over a ledger of its own.
use Rattle.gql_c.proofs.operation_cost.cost_within.Given as goal

abbrev pub ghosts-cost_alone : goal.ghosts-cost_alone
ghosts-cost_alone a = record { name = a.blank.name; parts = a.blank.parts }

-- The counter is over a ledger of its own.
use Rattle.gql_gateway.proofs.answering.gateway_answer.Given as goal

abbrev pub ghosts-answer_alone : goal.ghosts-answer_alone
ghosts-answer_alone g a = record { name = a.blank.name; parts = a.blank.parts }

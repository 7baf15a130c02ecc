-- The counter is over a ledger of its own.
use Rattle.gql_engine.proofs.request_serving.serve_requests_uncounted.Given as goal

abbrev pub ghosts-serve_alone : goal.ghosts-serve_alone
ghosts-serve_alone g a = record { name = a.blank.name; parts = a.blank.parts }

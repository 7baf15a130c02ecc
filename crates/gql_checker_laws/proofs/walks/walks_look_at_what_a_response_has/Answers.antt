use Rattle.gql_checker_laws.proofs.Matching.{items-some, items-other, items-none, items-given, keys-given, members-given}
use Rattle.gql_checker_laws.proofs.walks.walks_look_at_what_a_response_has.Goals as goal

pub returns-clause-same : goal.returns-clause-same
returns-clause-same types c n u vs is sized = items-some n u vs is sized

pub returns-clause-other : goal.returns-clause-other
returns-clause-other types c n u vs is sized = items-other n u vs is sized

pub returns-clause-unlisted : goal.returns-clause-unlisted
returns-clause-unlisted types c n u is = items-none n u is

pub returns-clause-items : goal.returns-clause-items
returns-clause-items types c see items v = items-given see items v

pub returns-clause-keys : goal.returns-clause-keys
returns-clause-keys types c r groups ms = keys-given r groups ms

pub returns-clause-members : goal.returns-clause-members
returns-clause-members types c r groups v = members-given r groups v

use Rattle.gql_checker_laws.proofs.Keys.{further-none, keys-more, keys-sized, missing-end, missing-here, missing-more, told-past}
use Rattle.gql_checker_laws.proofs.claims.keys_and_marks_are_taken_one_by_one.Goals as goal

pub returns-clause-sized : goal.returns-clause-sized
returns-clause-sized c parts ms apart = keys-sized parts ms apart

pub returns-clause-keys : goal.returns-clause-keys
returns-clause-keys c parts ms i key b sized within is test = keys-more parts ms i key b sized within is test

pub returns-clause-begun : goal.returns-clause-begun
returns-clause-begun c o = further-none o

pub returns-clause-marked : goal.returns-clause-marked
returns-clause-marked c marks i within is = missing-more marks i within is

pub returns-clause-missing : goal.returns-clause-missing
returns-clause-missing c marks i within is = missing-here marks i within is

pub returns-clause-ended : goal.returns-clause-ended
returns-clause-ended c marks i past = missing-end marks i past

pub returns-clause-past : goal.returns-clause-past
returns-clause-past c it n none = told-past it n none

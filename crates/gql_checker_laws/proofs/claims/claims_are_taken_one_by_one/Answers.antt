use Rattle.gql_checker_laws.proofs.Claiming.{claims-step, claims-end, share-more, share-end, any-more, any-end, told-more, told-end}
use Rattle.gql_checker_laws.proofs.claims.claims_are_taken_one_by_one.Goals as goal

pub returns-clause-claimed : goal.returns-clause-claimed
returns-clause-claimed types calls claim_of cs c errors i e within is claim = claims-step claim_of cs c errors i e within is claim

pub returns-clause-all_claimed : goal.returns-clause-all_claimed
returns-clause-all_claimed types calls claim_of cs errors i past = claims-end claim_of cs errors i past

pub returns-clause-shared : goal.returns-clause-shared
returns-clause-shared types calls claim_of s cs i c old new some within is one added = share-more claim_of s cs i c old new some within is one added

pub returns-clause-all_shared : goal.returns-clause-all_shared
returns-clause-all_shared types calls claim_of s cs i old past = share-end claim_of s cs i old past

pub returns-clause-compared : goal.returns-clause-compared
returns-clause-compared types calls claim_of sources fault cs i c any more told within is same added = any-more claim_of sources fault cs i c any more told within is same added

pub returns-clause-all_compared : goal.returns-clause-all_compared
returns-clause-all_compared types calls claim_of sources fault cs i any past = any-end claim_of sources fault cs i any past

pub returns-clause-told : goal.returns-clause-told
returns-clause-told types calls claim_of sources fault cs i c it more told within is same added = told-more claim_of sources fault cs i c it more told within is same added

pub returns-clause-all_told : goal.returns-clause-all_told
returns-clause-all_told types calls claim_of sources fault cs i it past = told-end claim_of sources fault cs i it past

use Rattle.gql_checker_laws.proofs.Sharing.{added-length, named-added, named-begun, named-none, named-share, same-is, share-added, share-empty}
use Rattle.gql_checker_laws.proofs.claims.claims_are_shared_by_name.Goals as goal

pub returns-clause-added : goal.returns-clause-added
returns-clause-added types calls claim_of own name c ns ls i even at key = named-added claim_of own name c ns ls i even at key

pub returns-clause-begun : goal.returns-clause-begun
returns-clause-begun types calls claim_of own n c ns ls even none key = named-begun claim_of own n c ns ls even none key

pub returns-clause-found : goal.returns-clause-found
returns-clause-found types calls claim_of own name ns ls i even at = named-share claim_of own name ns ls i even at

pub returns-clause-missing : goal.returns-clause-missing
returns-clause-missing types calls claim_of own name ns ls none = named-none claim_of own name ns ls none

pub returns-clause-length : goal.returns-clause-length
returns-clause-length types calls ls i c = added-length ls i c

pub returns-clause-index : goal.returns-clause-index
returns-clause-index types calls claim_of ls at c index within = share-added claim_of ls at c index within

pub returns-clause-empty : goal.returns-clause-empty
returns-clause-empty types calls claim_of count index = share-empty claim_of count index

pub returns-clause-number : goal.returns-clause-number
returns-clause-number types calls m n = same-is m n

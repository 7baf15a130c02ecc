use Rattle.gql_coerce.proofs.Coerced.{coerced-by_rule, coerced-only}
use Rattle.gql_coerce.proofs.laws.values_follow_the_rule.Goals as goal

pub returns-clause-follows : goal.returns-clause-follows
returns-clause-follows c = coerced-by_rule

pub returns-clause-only : goal.returns-clause-only
returns-clause-only c = coerced-only

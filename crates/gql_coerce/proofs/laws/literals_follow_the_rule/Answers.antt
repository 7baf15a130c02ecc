use Rattle.gql_coerce.proofs.LiteralCoerced.{literal-by_rule, literal-only}
use Rattle.gql_coerce.proofs.laws.literals_follow_the_rule.Goals as goal

pub returns-clause-follows : goal.returns-clause-follows
returns-clause-follows c = literal-by_rule

pub returns-clause-only : goal.returns-clause-only
returns-clause-only c = literal-only

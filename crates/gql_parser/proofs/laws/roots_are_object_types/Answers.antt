use Rattle.gql_parser.proofs.Roots.{by_rules, by_text}
use Rattle.gql_parser.proofs.laws.roots_are_object_types.Goals as goal

pub returns-clause-rules : goal.returns-clause-rules
returns-clause-rules c = by_rules

pub returns-clause-text : goal.returns-clause-text
returns-clause-text c = by_text c.built_in_text_is_a_document.ensures.scalars

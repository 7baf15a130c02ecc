use Rattle.gql_valid_laws.proofs.Texts.{text-depths, text-names}
use Rattle.gql_valid_laws.proofs.rule_laws.fields_of_one_key_merge.Goals as goal

pub returns-clause-names : goal.returns-clause-names
returns-clause-names c = λ schema text document means. text-names schema text document means

pub returns-clause-lists : goal.returns-clause-lists
returns-clause-lists c = λ schema_text schema text document valid means.
    text-depths schema text document means (c.fields_have_output_types.ensures.outputs schema_text schema valid)
    (c.fields_have_output_types.ensures.unreserved schema_text schema valid)

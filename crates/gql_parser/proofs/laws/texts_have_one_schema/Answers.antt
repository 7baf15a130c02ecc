use Rattle.gql_parser.proofs.One.{one_schema, no_faults, one_faults}
use Rattle.gql_parser.proofs.laws.texts_have_one_schema.Goals as goal

pub returns-clause-schema : goal.returns-clause-schema
returns-clause-schema c = one_schema c.texts_have_one_document.ensures.document

pub returns-clause-no_faults : goal.returns-clause-no_faults
returns-clause-no_faults c = no_faults c.texts_have_one_document.ensures.document

pub returns-clause-faults : goal.returns-clause-faults
returns-clause-faults c =
    one_faults c.texts_have_one_document.ensures.document c.stable_sorts_are_one.ensures.sorted c.one_thing_stands.ensures c.sentences_have_one_tree.ensures.words

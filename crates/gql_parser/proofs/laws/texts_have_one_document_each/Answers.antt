use Rattle.gql_parser.proofs.OneDocument.{one_document, no_faults, one_faults}
use Rattle.gql_parser.proofs.laws.texts_have_one_document_each.Goals as goal

pub returns-clause-document : goal.returns-clause-document
returns-clause-document c = one_document c.texts_have_one_document.ensures.document

pub returns-clause-no_faults : goal.returns-clause-no_faults
returns-clause-no_faults c = no_faults c.texts_have_one_document.ensures.document

pub returns-clause-faults : goal.returns-clause-faults
returns-clause-faults c = one_faults c.texts_have_one_document.ensures.document c.one_thing_stands.ensures c.sentences_have_one_tree.ensures.words

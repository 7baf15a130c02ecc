use Rattle.gql_valid_laws.proofs.Texts.{text-expanded, text-root}
use Rattle.gql_valid_laws.proofs.rule_laws.root_fields_have_one_name.Goals as goal

pub returns-clause-written : goal.returns-clause-written
returns-clause-written c = λ schema text document means operation among T stands variables. text-root schema text document means operation among T stands variables

pub returns-clause-expanded : goal.returns-clause-expanded
returns-clause-expanded c = λ schema text document means operation among T stands variables others.
    text-expanded schema text document means (c.acyclic_fragments_have_contents.ensures document.fragments (c.valid_documents_run.ensures.acyclic schema text document means))
    operation among T stands variables others

use Rattle.gql_client_schema.proofs.OneAnswer.{cyclic_none}
use Rattle.gql_client_schema.proofs.again.if_acyclic.Goals as goal

pub returns-then-acyclic : goal.returns-then-acyclic
returns-then-acyclic c = record { built = c.requires; acyclic = c.in_ok-acyclic.ensures.none c.if-acyclic.true }

pub returns-else-acyclic : goal.returns-else-acyclic
returns-else-acyclic c =
    cyclic_none c.texts_have_one_document.ensures.document c.args.schema.now c.args.document c.requires c.in_ok-acyclic.acyclic c.in_ok-acyclic.ensures
    c.if-acyclic.false

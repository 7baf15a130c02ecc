use Rattle.std.specs.Option.{option_copied}
use Rattle.gql_client_schema.proofs.OneAnswer.{no_query}
use Rattle.gql_client_schema.proofs.again.gives_again.Goals as goal

pub returns : goal.returns
returns c = (
  (λ t. absurd (cc)),
  (λ g. absurd (no_query c.texts_have_one_document.ensures.document c.args.schema (option_copied c.args.given)
      (rw c.in-None.is at c.in_ok-document.ensures) g)),
)

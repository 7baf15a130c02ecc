use Rattle.std.proofs.Common.{sym, subst}
use Rattle.std.specs.Option.{option_copied}
use Rattle.gql_document_types.specs.Spreads.{AreAcyclic}
use Rattle.gql_document_types.specs.declared.document.ExecutableDocument.{ExecutableDocument}
use Rattle.gql_client_schema.proofs.OneAnswer.{no_answer, again_iff}
use Rattle.gql_client_schema.proofs.again.answered_again.Goals as goal

pub answer_on-requires : goal.answer_on-requires
answer_on-requires c = subst (λ (d : ExecutableDocument). AreAcyclic d.fragments) (sym c.assume_valid-document.ensures) c.requires.acyclic

pub returns-in-Some : goal.returns-in-Some
returns-in-Some c =
    again_iff c.texts_have_one_document.ensures.document c.args.schema.now (option_copied c.args.given) c.args.document c.requires c.in-Some.response
    (rw (c.in-Some.is, c.assume_valid-document.ensures) at c.in_ok-response.ensures) c.is_same.result c.is_same.ensures

pub returns : goal.returns
returns c = (
  (λ t. absurd (cc)),
  (λ g. absurd (no_answer c.texts_have_one_document.ensures.document c.args.schema.now (option_copied c.args.given) c.args.document c.requires
      (rw (c.in-None.is, c.assume_valid-document.ensures) at c.in_ok-response.ensures) g)),
)

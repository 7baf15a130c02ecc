use Rattle.std.proofs.Common.{subst}
use Rattle.gql_document_types.specs.ChosenOperation.{text_of}
use Rattle.gql_engine.specs.AtHand.{TwoTexts}
use Rattle.gql_c.specs.Executions.{GivesOver, call_to}
use Rattle.gql_c.proofs.query.Query.answer.Goals as goal

pub answer_document-requires : goal.answer_document-requires
answer_document-requires c = rw (c.deref.ensures, c.as_str.ensures) c.self.invariant

pub returns : goal.returns
returns c =
    subst (λ (texts : TwoTexts). GivesOver c.args.members.now (call_to texts (text_of c.args.operation_name) c.args.variables.now c.args.introspection)
    c.answer_document-2.result) c.self.view_is
    (rw (c.deref.ensures, c.as_str.ensures, c.root.ensures) at c.answer_document-2.ensures)

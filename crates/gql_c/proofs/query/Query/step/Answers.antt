use Rattle.std.proofs.Common.{subst}
use Rattle.gql_document_types.specs.ChosenOperation.{text_of}
use Rattle.gql_engine.specs.AtHand.{TwoTexts}
use Rattle.gql_rounds.specs.Rounds.{GivesRound}
use Rattle.gql_c.specs.Executions.{call_to}
use Rattle.gql_c.proofs.query.Query.step.Goals as goal

pub step-requires : goal.step-requires
step-requires c = rw (c.deref.ensures, c.as_str.ensures) c.self.invariant

pub returns : goal.returns
returns c =
    subst (λ (texts : TwoTexts). GivesRound c.args.answers.now (call_to texts (text_of c.args.operation_name) c.args.variables.now c.args.introspection)
    c.step.result) c.self.view_is (rw (c.deref.ensures, c.as_str.ensures) at c.step.ensures)

use Rattle.std.proofs.Common.{◌≡◌, ap, sym, subst, ◌∙◌}
use Rattle.gql_document_types.specs.Spreadless.{HasNoSpread}
use Rattle.gql_document_types.specs.Spreads.{AreAcyclic}
use Rattle.gql_document_types.specs.declared.document.ExecutableDocument.{ExecutableDocument}
use Rattle.gql_document_types.specs.declared.operation.Operation.{Operation}
use Rattle.gql_document_types.specs.Expanded.{expanded}
use Rattle.jb_io.specs.Stream.{HasFailed}
use Rattle.gql_gateway.specs.Concrete.{concrete}
use Rattle.gql_gateway.proofs.Divisions.{divides}
use Rattle.gql_gateway.proofs.dividing.divide.Goals as goal

pub expand_fragments-requires : goal.expand_fragments-requires
expand_fragments-requires g c = record { acyclic = subst (λ (d : ExecutableDocument). AreAcyclic d.fragments) (sym c.as_ref.ensures) c.requires.acyclic }

pub divide_whole-requires-clause-spreadless : goal.divide_whole-requires-clause-spreadless
divide_whole-requires-clause-spreadless g c =
    subst (λ (o : Operation). HasNoSpread o.selection_set.selections) (sym c.in-Ok.ensures.made)
    (c.expansions_have_no_spread.ensures c.as_ref.result.now.fragments c.args.division.now.operation.now.selection_set.selections)

pub returns-in-Ok-clause-divides : goal.returns-in-Ok-clause-divides
returns-in-Ok-clause-divides g c =
    let division = c.args.division.now in
    divides (g.R.Remote.tells c.args.remote.now) (HasFailed (g.R.Remote.faults c.args.remote.now) (g.R.Remote.faults c.divide_whole.new.remote))
    division.schema.now division.document.now division.operation.now division.variables.now c.as_ref.result.now c.in-Ok.whole c.as_ref.ensures
    c.in-Ok.ensures.made c.in-Ok.ensures.within c.divide_whole.result c.divide_whole.ensures.joins

pub returns-in-Ok-clause-left : goal.returns-in-Ok-clause-left
returns-in-Ok-clause-left g c = λ left.
    c.divide_whole.ensures.left
    (ap (λ (o : Operation). concrete o.selection_set.selections) c.in-Ok.ensures.made
    ∙ (ap (λ (d : ExecutableDocument). concrete (expanded d.fragments c.args.division.now.operation.now.selection_set.selections)) c.as_ref.ensures ∙ left))

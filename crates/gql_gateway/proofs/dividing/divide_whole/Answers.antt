use Rattle.std.proofs.Common.{◌≡◌, Err, Result, sym, subst}
use Rattle.jb_text.specs.declared.refused.Refused.{Refused}
use Rattle.gql_ast_base.specs.Names.{Named}
use Rattle.gql_document_types.specs.Spreads.{AreAcyclic}
use Rattle.gql_document_types.specs.declared.document.ExecutableDocument.{ExecutableDocument}
use Rattle.gql_response.specs.declared.execution_response.ExecutionResponse.{ExecutionResponse}
use Rattle.gql_gateway.specs.Joined.{Gives, joined}
use Rattle.gql_gateway.proofs.Divisions.{divided}
use Rattle.gql_gateway.proofs.dividing.divide_whole.Goals as goal

pub root_keys-requires : goal.root_keys-requires
root_keys-requires g c = subst (λ (d : ExecutableDocument). AreAcyclic d.fragments) (sym c.as_ref-2.ensures) c.requires.acyclic

pub returns-in-Ok-clause-joins : goal.returns-in-Ok-clause-joins
returns-in-Ok-clause-joins g c =
    let division = c.args.division.now in
    divided (g.R.Remote.tells c.args.remote.now) division.schema.now division.document.now c.args.whole.now division.variables.now c.as_ref.result.now
    c.as_ref-2.result.now c.as_ref-3.result.now c.as_ref.ensures c.as_ref-2.ensures c.as_ref-3.ensures c.in_ok-keys.keys c.in_ok-keys.ensures.keys
    c.in_ok-here.here c.in_ok-there.there c.in_ok-here.ensures c.in_ok-there.ensures.asked _ c.in-Ok.ensures

pub returns-in-Err-Fault-clause-joins : goal.returns-in-Err-Fault-clause-joins
returns-in-Err-Fault-clause-joins g c =
    let division = c.args.division.now in
    let lacking =
    subst (λ (r : Refused Named). Gives (joined c.in_ok-keys.keys c.in_ok-here.here c.in_ok-there.there) (Err r)) c.in-Err-Fault.field-0-is c.in-Err-Fault.ensures in
    divided (g.R.Remote.tells c.args.remote.now) division.schema.now division.document.now c.args.whole.now division.variables.now c.as_ref.result.now
    c.as_ref-2.result.now c.as_ref-3.result.now c.as_ref.ensures c.as_ref-2.ensures c.as_ref-3.ensures c.in_ok-keys.keys c.in_ok-keys.ensures.keys
    c.in_ok-here.here c.in_ok-there.there c.in_ok-here.ensures c.in_ok-there.ensures.asked (Err c.in-Err-Fault.key) lacking

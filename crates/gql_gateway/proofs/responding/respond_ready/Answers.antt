use Rattle.gql_engine.specs.bridge.Phases.{ready_as}
use Rattle.jb_io.specs.Stream.{HasFailed}
use Rattle.gql_gateway.proofs.Calls.{division-caused, division-unasked, nobody-left}
use Rattle.gql_gateway.proofs.Chosen.{begins-at-object}
use Rattle.gql_gateway.proofs.responding.respond_ready.Goals as goal

pub divide-requires-clause-acyclic : goal.divide-requires-clause-acyclic
divide-requires-clause-acyclic g c =
    let ready = c.args.ready.now in
    c.valid_documents_run.ensures.acyclic ready.schema.now c.requires.0.query ready.document.now c.requires.3.meant.is_document

pub divide-requires-clause-root : goal.divide-requires-clause-root
divide-requires-clause-root g c =
    let ready = c.args.ready.now in
    let wanted = c.requires.0 in
    let is = c.requires.3 in
    begins-at-object ready.schema.now ready.document.now wanted.operation_name ready.operation.now
    (c.roots_are_object_types.ensures.text wanted.schema ready.schema.now is.meant.is_schema)
    (c.valid_documents_run.ensures.roots ready.schema.now wanted.query ready.document.now is.meant.is_document) is.is_chosen

pub returns-in_ok-to_bytes-in-Ok-clause-responds : goal.returns-in_ok-to_bytes-in-Ok-clause-responds
returns-in_ok-to_bytes-in-Ok-clause-responds g c = λ wanted before after is. record {
  ready = ready_as is;
  response = c.in-Ok.response;
  divides = c.in-Ok.ensures.divides;
  written = c.in_ok-to_bytes-in-Ok.ensures;
}

pub returns-in-Err-clause-responds : goal.returns-in-Err-clause-responds
returns-in-Err-clause-responds g c = λ wanted before after is.
    division-caused (g.R.Remote.tells c.args.remote.now) (HasFailed (g.R.Remote.faults c.args.remote.now) (g.R.Remote.faults c.divide.new.remote)) wanted (ready_as is)
    c.in-Err.refused c.in-Err.ensures.divides c.of_division.result c.of_division.ensures

pub returns-in-Err-clause-unasked : goal.returns-in-Err-clause-unasked
returns-in-Err-clause-unasked g c = λ before. c.in-Err.ensures.unasked (division-unasked c.in-Err.refused c.of_division.result c.of_division.ensures before)

pub returns-in_ok-to_bytes-in-Ok-clause-left : goal.returns-in_ok-to_bytes-in-Ok-clause-left
returns-in_ok-to_bytes-in-Ok-clause-left g c = λ wanted before after is nobody.
    c.divide.ensures.left (nobody-left c.readiness_is_one.ensures.document c.readiness_is_one.ensures.operation wanted (ready_as is) nobody)

pub returns-in_err-to_bytes-in-Ok-clause-left : goal.returns-in_err-to_bytes-in-Ok-clause-left
returns-in_err-to_bytes-in-Ok-clause-left g c = λ wanted before after is nobody.
    c.divide.ensures.left (nobody-left c.readiness_is_one.ensures.document c.readiness_is_one.ensures.operation wanted (ready_as is) nobody)

pub returns-in-Err-clause-left : goal.returns-in-Err-clause-left
returns-in-Err-clause-left g c = λ wanted before after is nobody.
    c.divide.ensures.left (nobody-left c.readiness_is_one.ensures.document c.readiness_is_one.ensures.operation wanted (ready_as is) nobody)

use Rattle.std.proofs.Common.{◌∙◌, ap}
use Rattle.std.proofs.lemmas.Result.{IfOk-weaker}
use Rattle.gql_exec.specs.Execution.{with_implementers, with_introspection, with_operation, with_values}
use Rattle.gql_exec.specs.Running.{IsPrintedIn}
use Rattle.gql_exec.specs.declared.execution.Execution.{Execution}
use Rattle.gql_exec.specs.declared.execution.Given.TheVariants.{Coerced}
use Rattle.gql_response.specs.declared.execution_response.ExecutionResponse.{ExecutionResponse}
use Rattle.gql_engine.specs.bridge.Answered.{IsPrint}
use Rattle.gql_engine.proofs.Responses.{executed_bytes, never_refused}
use Rattle.gql_engine.proofs.Runs.{rooted}
use Rattle.gql_engine.proofs.ready.execute_with.Goals as goal

pub execute_written-requires : goal.execute_written-requires
execute_written-requires g c = record {
  acyclic = rw (c.enable_schema_introspection-execution.ensures, c.coerced_variable_values.ensures, c.operation.ensures, c.implementers_map.ensures, c.new.ensures)
      (c.valid_documents_run.ensures.acyclic c.args.ready.now.schema.now c.requires.0.query c.args.ready.now.document.now c.requires.3.meant.is_document);
}

pub returns-in-Ok : goal.returns-in-Ok
returns-in-Ok g c =
    let values = c.args.values in
    let operation = c.args.ready.now.operation in
    let implementers = c.args.ready.now.implementers in
    let is =
    c.enable_schema_introspection-execution.ensures
    ∙ ap (λ (e : Execution). with_introspection e c.args.ready.now.introspection) (c.coerced_variable_values.ensures
    ∙ ap (λ (e : Execution). with_values e (Coerced values)) (c.operation.ensures
    ∙ ap (λ (e : Execution). with_operation e operation) (c.implementers_map.ensures ∙ ap (λ (e : Execution). with_implementers e implementers) c.new.ensures))) in
    let given = c.in-Ok.ensures in
    executed_bytes g.O.ObjectValue.type_of g.O.ObjectValue.resolves (g.O.ObjectValue.seen c.args.root.now) _ _ implementers operation values
    c.args.ready.now.introspection c.enable_schema_introspection-execution.result is c.args.steps.now c.execute_written.new.steps given.response c.write_response.result
    given.answer given.looks
    (IfOk-weaker c.write_response.result (λ made. (response : ExecutionResponse) → IsPrintedIn response c.in-Ok.response → IsPrint response made) (IsPrint given.response)
    (λ made prints. prints given.response given.printed) c.write_response.ensures)

pub unreachable-requires : goal.unreachable-requires
unreachable-requires g c =
    let values = c.args.values in
    let operation = c.args.ready.now.operation in
    let implementers = c.args.ready.now.implementers in
    let is =
    c.enable_schema_introspection-execution.ensures
    ∙ ap (λ (e : Execution). with_introspection e c.args.ready.now.introspection) (c.coerced_variable_values.ensures
    ∙ ap (λ (e : Execution). with_values e (Coerced values)) (c.operation.ensures
    ∙ ap (λ (e : Execution). with_operation e operation) (c.implementers_map.ensures ∙ ap (λ (e : Execution). with_implementers e implementers) c.new.ensures))) in
    let wanted = c.requires.0 in
    let meant = c.requires.3.meant in
    let begins =
    rooted c.args.ready.now.schema.now c.args.ready.now.document.now wanted.operation_name operation.now
    (c.roots_are_object_types.ensures.text wanted.schema c.args.ready.now.schema.now meant.is_schema)
    (c.valid_documents_run.ensures.roots c.args.ready.now.schema.now wanted.query c.args.ready.now.document.now meant.is_document) c.requires.3.is_chosen in
    never_refused g.O.ObjectValue.type_of g.O.ObjectValue.resolves (g.O.ObjectValue.seen c.args.root.now) _ _ implementers operation values
    c.args.ready.now.introspection c.enable_schema_introspection-execution.result is begins _ _ c.in-Err-Fault.field-0-is c.in-Err-Fault.ensures

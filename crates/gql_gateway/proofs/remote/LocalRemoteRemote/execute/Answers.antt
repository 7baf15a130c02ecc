use Rattle.std.proofs.Common.{rules, ◌≡◌, Ok, true, ap, sym, subst, ◌∙◌, Result}
use Rattle.jb_text.specs.declared.refused.Refused.{Refused}
use Rattle.gql_document_types.specs.Spreads.{AreAcyclic}
use Rattle.gql_exec.specs.Execution.{with_operation, with_values, with_introspection, Answers}
use Rattle.gql_exec.specs.declared.execution.Execution.{Execution}
use Rattle.gql_exec.specs.declared.execution.Given.TheVariants.{Coerced}
use Rattle.gql_response.specs.declared.execution_response.ExecutionResponse.{ExecutionResponse}
use Rattle.gql_response.specs.declared.request_error.RequestError.{RequestError}
use Rattle.gql_gateway.proofs.Locals.{asked, told}
use Rattle.gql_gateway.proofs.remote.LocalRemoteRemote.execute.Goals as goal

pub execute_sync-requires : goal.execute_sync-requires
execute_sync-requires g c =
    let is : c.enable_schema_introspection-execution.result ≡ asked c.args.schema c.args.document c.args.operation c.args.variables =
    c.enable_schema_introspection-execution.ensures
    ∙ ap (λ (e : Execution). with_introspection e true) (c.coerced_variable_values.ensures
    ∙ ap (λ (e : Execution). with_values e (Coerced c.args.variables)) (c.operation.ensures
    ∙ ap (λ (e : Execution). with_operation e c.args.operation) c.new.ensures)) in
    record { acyclic = subst (λ (e : Execution). AreAcyclic e.document.now.fragments) (sym is) c.requires.acyclic }

pub returns-in-Ok-clause-told : goal.returns-in-Ok-clause-told
returns-in-Ok-clause-told g c =
    let is : c.enable_schema_introspection-execution.result ≡ asked c.args.schema c.args.document c.args.operation c.args.variables =
    c.enable_schema_introspection-execution.ensures
    ∙ ap (λ (e : Execution). with_introspection e true) (c.coerced_variable_values.ensures
    ∙ ap (λ (e : Execution). with_values e (Coerced c.args.variables)) (c.operation.ensures
    ∙ ap (λ (e : Execution). with_operation e c.args.operation) c.new.ensures)) in
    told c.args.schema c.args.document c.args.operation c.args.variables g.O.ObjectValue.type_of g.O.ObjectValue.resolves (g.O.ObjectValue.seen c.args.self.now.root.now)
    c.in-Ok.response c.enable_schema_introspection-execution.result is
    (subst (λ (a : Result ExecutionResponse (Refused RequestError)). Answers c.enable_schema_introspection-execution.result g.O.ObjectValue.type_of g.O.ObjectValue.resolves (g.O.ObjectValue.seen c.args.self.now.root.now) a)
    c.in-Ok.is c.execute_sync.ensures)

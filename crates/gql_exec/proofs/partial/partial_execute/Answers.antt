use Rattle.std.proofs.Common.{◌≡◌, true, ap, sym, subst, ◌∙◌}
use Rattle.gql_document_types.specs.Spreads.{AreAcyclic}
use Rattle.gql_exec.specs.Execution.{with_operation, with_implementers, with_values, with_introspection}
use Rattle.gql_exec.specs.declared.execution.Execution.{Execution}
use Rattle.gql_exec.specs.declared.execution.Given.TheVariants.{Coerced}
use Rattle.gql_exec.proofs.PartialAnswers.{asked, partial-answer}
use Rattle.gql_exec.proofs.partial.partial_execute.Goals as goal

pub returns : goal.returns
returns c =
    let operation = c.args.operation in
    let implementers = c.args.implementers_map in
    let values = c.args.variable_values in
    let is : c.enable_schema_introspection.result ≡ asked c.args.schema c.args.document operation implementers values =
    c.enable_schema_introspection.ensures
    ∙ ap (λ (e : Execution). with_introspection e true) (c.coerced_variable_values.ensures
    ∙ ap (λ (e : Execution). with_values e (Coerced values)) (c.implementers_map.ensures
    ∙ ap (λ (e : Execution). with_implementers e implementers) (c.operation.ensures
    ∙ ap (λ (e : Execution). with_operation e operation) c.new.ensures))) in
    partial-answer c.args.schema c.args.document operation implementers values c.enable_schema_introspection.result c.execute_sync.result is c.execute_sync.ensures

pub execute_sync-requires : goal.execute_sync-requires
execute_sync-requires c =
    let operation = c.args.operation in
    let implementers = c.args.implementers_map in
    let values = c.args.variable_values in
    let is : c.enable_schema_introspection.result ≡ asked c.args.schema c.args.document operation implementers values =
    c.enable_schema_introspection.ensures
    ∙ ap (λ (e : Execution). with_introspection e true) (c.coerced_variable_values.ensures
    ∙ ap (λ (e : Execution). with_values e (Coerced values)) (c.implementers_map.ensures
    ∙ ap (λ (e : Execution). with_implementers e implementers) (c.operation.ensures
    ∙ ap (λ (e : Execution). with_operation e operation) c.new.ensures))) in
    record { acyclic = subst (λ (e : Execution). AreAcyclic e.document.now.fragments) (sym is) c.requires.acyclic }

-- What an execution with introspection on, of an object that leaves every field out, answers.
use Rattle.std.proofs.Common.{◌≡◌, ℕ, List, Option, Some, None, true, Result, Ok, Err, refl, subst}
use Rattle.std.specs.Borrow.{Bor}
use Rattle.jb_text.specs.declared.refused.Refused.{Refused}
use Rattle.jb_text.specs.declared.refused.Refused.TheVariants.{Fault, Memory}
use Rattle.gql_response.specs.declared.request_error.RequestError.{RequestError}
use Rattle.gql_document_types.specs.declared.document.ExecutableDocument.{ExecutableDocument}
use Rattle.gql_document_types.specs.declared.operation.Operation.{Operation}
use Rattle.gql_response.specs.declared.execution_response.ExecutionResponse.{ExecutionResponse}
use Rattle.gql_schema_types.specs.Schemas.{object_of}
use Rattle.gql_schema_types.specs.declared.implementers.Implementers.{Implementers}
use Rattle.gql_schema_types.specs.declared.schema.Schema.{Schema}
use Rattle.gql_schema_types.specs.declared.types.ObjectType.{ObjectType}
use Rattle.gql_exec.specs.IntrospectedRequest.{no_name, no_field}
use Rattle.gql_exec.specs.Thing.{of_user, type_of_thing}
use Rattle.gql_exec.specs.ThingMeaning.{thing_meaning}
use Rattle.gql_exec.specs.Request.{Members}
use Rattle.gql_exec.specs.Response.{IsExecuted, IsExplained}
use Rattle.gql_exec.specs.Execution.{started, with_operation, with_implementers, with_values, with_introspection, Prepared, undefined_root, on_root, request_in, IsAnswer, Answers}
use Rattle.gql_exec.specs.Partial.{IsPartialOn, IsPartial}
use Rattle.gql_exec.specs.declared.execution.Execution.{Execution}
use Rattle.gql_exec.specs.declared.execution.Given.TheVariants.{Coerced}

module _ (schema : Bor Schema) (document : Bor ExecutableDocument) (operation : Bor Operation) (implementers : Bor (List (List ℕ × Implementers))) (values : Bor Members) where
  abbrev pub asked : Execution
  asked = with_introspection (with_values (with_implementers (with_operation (started schema document) operation) implementers) (Coerced values)) true

  abbrev answers : Option ObjectType → Result ExecutionResponse (Refused RequestError) → Type 0
  answers found answer = IsAnswer asked (type_of_thing no_name) (thing_meaning no_field) (of_user schema.now tt) (on_root schema.now (Coerced values) operation.now found) answer

  abbrev prepared_on : ObjectType → Prepared
  prepared_on U = record { operation = operation.now; root = U; variables = values.now }

  by-root : (found : Option ObjectType) (answer : Result ExecutionResponse (Refused RequestError)) → answers found answer
      → IsPartialOn schema.now document.now operation.now values.now found answer
  by-root (Some U) (Ok response) given =
      let same : given.0 ≡ prepared_on U = (let is : Ok (prepared_on U) ≡ Ok given.0 = given.1 in cc) in (
        U,
        refl,
        subst (λ (p : Prepared). IsExecuted (request_in asked p.variables (type_of_thing no_name) (thing_meaning no_field)) p.root (of_user schema.now tt) p.operation.selection_set.selections response) same given.2,
        subst (λ (p : Prepared). IsExplained (request_in asked p.variables (type_of_thing no_name) (thing_meaning no_field)) p.root (of_user schema.now tt) p.operation.selection_set.selections response) same given.3,
      )
  by-root (Some U) (Err (Fault fault)) given = absurd (let is : Ok (prepared_on U) ≡ Err fault = given in cc)
  by-root (Some U) (Err Memory) given = tt
  by-root None (Ok response) given = absurd (let is : Err undefined_root ≡ Ok given.0 = given.1 in cc)
  by-root None (Err (Fault fault)) given = (refl, (let is : Err undefined_root ≡ Err fault = given in cc))
  by-root None (Err Memory) given = tt

  pub partial-answer : (execution : Execution) (answer : Result ExecutionResponse (Refused RequestError)) → execution ≡ asked → Answers execution no_name no_field tt answer
      → IsPartial schema.now document.now operation.now values.now answer
  partial-answer execution answer is given =
      by-root (object_of schema.now operation.now.selection_set.ty.text) answer (subst (λ e. Answers e no_name no_field tt answer) is given)

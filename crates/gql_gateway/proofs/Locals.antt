-- What an execution with introspection on answers, on a resolver.
use Rattle.std.proofs.Common.{◌≡◌, ℕ, List, Option, Some, None, true, Result, Ok, Err, refl, sym, ap, ◌∙◌, subst}
use Rattle.std.specs.Borrow.{Bor}
use Rattle.jb_text.specs.declared.refused.Refused.{Refused}
use Rattle.gql_document_types.specs.Spreads.{AreAcyclic}
use Rattle.gql_document_types.specs.declared.document.ExecutableDocument.{ExecutableDocument}
use Rattle.gql_document_types.specs.declared.operation.Operation.{Operation}
use Rattle.gql_exec.specs.Request.{Members}
use Rattle.gql_exec.specs.Response.{IsExecuted}
use Rattle.gql_exec.specs.Execution.{started, with_operation, with_values, with_introspection, Prepared, undefined_root, on_root, request_in, IsAnswer, Answers}
use Rattle.gql_exec.specs.Thing.{of_user, type_of_thing}
use Rattle.gql_exec.specs.ThingMeaning.{Resolving, thing_meaning}
use Rattle.gql_exec.specs.declared.execution.Execution.{Execution}
use Rattle.gql_exec.specs.declared.execution.Given.TheVariants.{Coerced}
use Rattle.gql_response.specs.declared.execution_response.ExecutionResponse.{ExecutionResponse}
use Rattle.gql_response.specs.declared.request_error.RequestError.{RequestError}
use Rattle.gql_schema_types.specs.Schemas.{object_of}
use Rattle.gql_schema_types.specs.declared.schema.Schema.{Schema}
use Rattle.gql_schema_types.specs.declared.types.ObjectType.{ObjectType}
use Rattle.gql_gateway.specs.Remote.{TellsBy}

module _ (schema : Bor Schema) (document : Bor ExecutableDocument) (operation : Bor Operation) (values : Bor Members) where
  abbrev pub asked : Execution
  asked = with_introspection (with_values (with_operation (started schema document) operation) (Coerced values)) true

  abbrev prepared_on : ObjectType → Prepared
  prepared_on U = record { operation = operation.now; root = U; variables = values.now }

  module _ {X : Type 0} (types : X → List ℕ) (resolves : Resolving X) (x : X) (response : ExecutionResponse) where
    by-root : (found : Option ObjectType)
        → IsAnswer asked (type_of_thing types) (thing_meaning resolves) (of_user schema.now x) (on_root schema.now (Coerced values) operation.now found) (Ok response)
        → object_of schema.now operation.now.selection_set.ty.text ≡ found → TellsBy types resolves x schema.now document.now operation.now values.now response
    by-root (Some U) given is =
        let same : given.0 ≡ prepared_on U = (let e : Ok (prepared_on U) ≡ Ok given.0 = given.1 in cc) in (
          U,
          is,
          subst (λ (p : Prepared). IsExecuted (request_in asked p.variables (type_of_thing types) (thing_meaning resolves)) p.root (of_user schema.now x) p.operation.selection_set.selections response) same given.2,
        )
    by-root None given is = absurd (let e : Err undefined_root ≡ Ok given.0 = given.1 in cc)

    pub told : (execution : Execution) → execution ≡ asked → Answers execution types resolves x (Ok response)
        → TellsBy types resolves x schema.now document.now operation.now values.now response
    told execution is given =
        by-root (object_of schema.now operation.now.selection_set.ty.text) (subst (λ e. Answers e types resolves x (Ok response)) is given) refl

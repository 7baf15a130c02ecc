-- The verdict on what was read, with introspection or without.
use Rattle.std.proofs.Common.{◌≡◌, ℕ, List, Bool, true, false, Option, Some, None, is_some, Result, Ok, Err, IfOk, refl, sym, subst}
use Rattle.std.proofs.lemmas.Result.{IfOk-weaker}
use Rattle.gql_document_types.specs.declared.document.ExecutableDocument.{ExecutableDocument}
use Rattle.gql_document_types.specs.declared.operation.Operation.{Operation}
use Rattle.gql_exec.specs.Thing.{Thing, of_user, type_of_thing}
use Rattle.gql_exec.specs.ThingMeaning.{thing_meaning}
use Rattle.gql_exec.specs.Executing.{Resolving, request_by}
use Rattle.gql_exec.specs.Request.{Members}
use Rattle.gql_response.specs.declared.execution_response.ExecutionResponse.{ExecutionResponse}
use Rattle.gql_response.specs.declared.fault.ResponseFault.{ResponseFault}
use Rattle.gql_schema_types.specs.Schemas.{object_of}
use Rattle.gql_schema_types.specs.declared.schema.Schema.{Schema}
use Rattle.gql_schema_types.specs.declared.types.ObjectType.{ObjectType}
use Rattle.gql_response_check.specs.Verdict.{IsVerdictBy, IsVerdictOf, IsVerdictOn, IsVerdictOver}
use Rattle.gql_response_check.specs.declared.verdict.Verdict.{Verdict}
use Rattle.gql_response_check.specs.declared.verdict.Verdict.TheVariants.{NotResponse}

module _ (schema : Schema) (document : ExecutableDocument) (operation : Operation) (variables : Members) where
  -- on the root type that the schema has
  pub verdict-over : {X E : Type 0} (introspection : Bool) (types : X → List ℕ) (resolves : Resolving X) (x : X) (response : ExecutionResponse) (root : ObjectType)
      (result : Result Verdict E) → object_of schema operation.selection_set.ty.text ≡ Some root
      → IfOk result (IsVerdictOn (request_by introspection schema document variables types resolves) root x operation.selection_set.selections response)
      → IfOk result (IsVerdictOver introspection schema document operation variables types resolves x (Ok response))
  verdict-over introspection types resolves x response root result found =
      IfOk-weaker result (IsVerdictOn (request_by introspection schema document variables types resolves) root x operation.selection_set.selections response)
      (IsVerdictOver introspection schema document operation variables types resolves x (Ok response)) (λ verdict is. record { root = root; found = found; is = is })

  module _ {X : Type 0} (types : X → List ℕ) (resolves : Resolving X) (x : X) (read : Result ExecutionResponse ResponseFault) where
    -- nothing was read
    fault-over : {Y : Type 0} (introspection : Bool) (kinds : Y → List ℕ) (answers : Resolving Y) (y : Y) (fault : ResponseFault) (o : Option ObjectType)
        → object_of schema operation.selection_set.ty.text ≡ o → is_some o ≡ true → read ≡ Err fault
        → IsVerdictOver introspection schema document operation variables kinds answers y read (NotResponse fault)
    fault-over introspection kinds answers y fault None found some is = absurd (cc)
    fault-over introspection kinds answers y fault (Some root) found some is = record {
      root = root;
      found = found;
      is = subst (λ r. IsVerdictOf (request_by introspection schema document variables kinds answers) root y operation.selection_set.selections r (NotResponse fault)) (sym is) refl;
    }

    pub verdict-fault : (introspection : Bool) (fault : ResponseFault) → is_some (object_of schema operation.selection_set.ty.text) ≡ true → read ≡ Err fault
        → IsVerdictBy introspection schema document operation variables types resolves x read (NotResponse fault)
    verdict-fault true fault some is =
        fault-over true (type_of_thing types) (thing_meaning resolves) (of_user schema x) fault (object_of schema operation.selection_set.ty.text) refl some is
    verdict-fault false fault some is = fault-over false types resolves x fault (object_of schema operation.selection_set.ty.text) refl some is

    -- a response was read
    module _ {E : Type 0} (result : Result Verdict E) (response : ExecutionResponse) (is : read ≡ Ok response) where
      pub verdict-introspected : (introspection : Bool) (thing : Thing X) → introspection ≡ true → thing ≡ of_user schema x
          → IfOk result (IsVerdictOver introspection schema document operation variables (type_of_thing types) (thing_meaning resolves) thing (Ok response))
          → IfOk result (IsVerdictBy introspection schema document operation variables types resolves x read)
      verdict-introspected false thing on seen verdict = absurd (cc)
      verdict-introspected true thing on seen verdict =
          subst (λ r. IfOk result (IsVerdictOver true schema document operation variables (type_of_thing types) (thing_meaning resolves) (of_user schema x) r)) (sym is)
          (subst (λ y. IfOk result (IsVerdictOver true schema document operation variables (type_of_thing types) (thing_meaning resolves) y (Ok response))) seen verdict)

      pub verdict-alone : (introspection : Bool) → introspection ≡ false
          → IfOk result (IsVerdictOver introspection schema document operation variables types resolves x (Ok response))
          → IfOk result (IsVerdictBy introspection schema document operation variables types resolves x read)
      verdict-alone true off verdict = absurd (cc)
      verdict-alone false off verdict =
          subst (λ r. IfOk result (IsVerdictOver false schema document operation variables types resolves x r)) (sym is) verdict

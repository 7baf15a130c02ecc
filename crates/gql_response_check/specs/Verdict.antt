-- What is said of the bytes of a response: sections 6.4.4 and 7.1 of GraphQL October 2021.
use Rattle.std.specs.Prelude.{◌≡◌, ℕ, Bool, true, false, List, Some, Result, Ok, Err}
use Rattle.gql_document_types.specs.declared.document.ExecutableDocument.{ExecutableDocument}
use Rattle.gql_document_types.specs.declared.operation.Operation.{Operation}
use Rattle.gql_document_types.specs.declared.selection.Selection.{Selection}
use Rattle.gql_exec.specs.Thing.{of_user, type_of_thing}
use Rattle.gql_exec.specs.ThingMeaning.{thing_meaning}
use Rattle.gql_exec.specs.Executing.{Resolving, request_by}
use Rattle.gql_exec.specs.Request.{Members, Request}
use Rattle.gql_response.specs.declared.execution_response.ExecutionResponse.{ExecutionResponse}
use Rattle.gql_response.specs.declared.fault.ResponseFault.{ResponseFault}
use Rattle.gql_schema_types.specs.Schemas.{object_of}
use Rattle.gql_schema_types.specs.declared.schema.Schema.{Schema}
use Rattle.gql_schema_types.specs.declared.types.ObjectType.{ObjectType}
use Rattle.gql_checker_laws.specs.Judgement.{IsJudged, Judgement, is_explained, false_error, bad_value}
use Rattle.gql_response_check.specs.declared.verdict.Verdict.{Verdict}
use Rattle.gql_response_check.specs.declared.verdict.Verdict.TheVariants.{Explained, NotResponse, FalseError, BadValue}

abbrev pub verdict_of : Judgement → Verdict
verdict_of is_explained = Explained
verdict_of (false_error index) = FalseError index
verdict_of (bad_value path) = BadValue path

module _ {X : Type 0} (r : Request X) (root : ObjectType) (initial : X) (selections : List Selection) where
  -- of a response that was read: that its errors are true and explain its data, or the first false error, or where all are true the
  -- first bad value; and that it is explained wherever it is, and false wherever an error is
  pub record IsVerdictOn (response : ExecutionResponse) (it : Verdict) : Type 0 where
    pub judgement : Judgement
    pub judged : IsJudged r root initial selections response judgement
    pub is : it ≡ verdict_of judgement

  -- of what was read: no response exactly where nothing was read, with the fault of that
  abbrev pub IsVerdictOf : Result ExecutionResponse ResponseFault → Verdict → Type 0
  IsVerdictOf (Ok response) it = IsVerdictOn response it
  IsVerdictOf (Err fault) it = it ≡ NotResponse fault

-- on an operation, whose root type is an object type of the schema, by the resolvers of these objects
pub record IsVerdictOver {X : Type 0} (introspection : Bool) (schema : Schema) (document : ExecutableDocument) (operation : Operation) (variables : Members)
    (types : X → List ℕ) (resolves : Resolving X) (initial : X) (read : Result ExecutionResponse ResponseFault) (it : Verdict) : Type 0 where
  pub root : ObjectType
  pub found : object_of schema operation.selection_set.ty.text ≡ Some root
  pub is : IsVerdictOf (request_by introspection schema document variables types resolves) root initial operation.selection_set.selections read it

-- by the resolvers of the user's objects alone; and with introspection over these and the library's own (section 4)
abbrev pub IsVerdictBy : {X : Type 0} → Bool → Schema → ExecutableDocument → Operation → Members → (X → List ℕ) → Resolving X → X
    → Result ExecutionResponse ResponseFault → Verdict → Type 0
IsVerdictBy true schema document operation variables types resolves initial read it =
    IsVerdictOver true schema document operation variables (type_of_thing types) (thing_meaning resolves) (of_user schema initial) read it
IsVerdictBy false schema document operation variables types resolves initial read it =
    IsVerdictOver false schema document operation variables types resolves initial read it

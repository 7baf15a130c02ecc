-- Where a response is explained, it has no other verdict: what is wanted is ready in one way.
use Rattle.std.proofs.Common.{◌≡◌, ℕ, Bool, true, false, List, Some, Result, Ok, Err, refl, sym, ap, ◌∙◌, subst}
use Rattle.gql_checker_laws.specs.Judgement.{IsJudgementOn, Judgement, bad_value, false_error, is_explained}
use Rattle.gql_document_types.specs.declared.document.ExecutableDocument.{ExecutableDocument}
use Rattle.gql_document_types.specs.declared.operation.Operation.{Operation}
use Rattle.gql_document_types.specs.declared.selection.Selection.{Selection}
use Rattle.gql_engine.specs.Ready.{Ready}
use Rattle.gql_engine.specs.Wanted.{Members, Wanted}
use Rattle.gql_exec.specs.Thing.{of_user, type_of_thing}
use Rattle.gql_exec.specs.ThingMeaning.{Resolving, thing_meaning}
use Rattle.gql_exec.specs.Executing.{request_by}
use Rattle.gql_exec.specs.Request.{Request}
use Rattle.gql_response.specs.Reading.{response_read}
use Rattle.gql_response.specs.declared.execution_response.ExecutionResponse.{ExecutionResponse}
use Rattle.gql_response.specs.declared.fault.ResponseFault.{ResponseFault}
use Rattle.gql_response_check.specs.Verdict.{IsVerdictBy, IsVerdictOf, IsVerdictOn, IsVerdictOver, verdict_of}
use Rattle.gql_response_check.specs.declared.verdict.Verdict.{Verdict}
use Rattle.gql_response_check.specs.declared.verdict.Verdict.TheVariants.{Explained, NotResponse, FalseError, BadValue}
use Rattle.gql_schema_types.specs.declared.schema.Schema.{Schema}
use Rattle.gql_schema_types.specs.declared.types.ObjectType.{ObjectType}
use Rattle.gql_checker.specs.Judged.{IsJudged}

explained-is : (j : Judgement) → Explained ≡ verdict_of j → j ≡ is_explained
explained-is is_explained is = refl
explained-is (false_error index) is = absurd (let e : Explained ≡ FalseError index = is in cc)
explained-is (bad_value path) is = absurd (let e : Explained ≡ BadValue path = is in cc)

module _ {X : Type 0} (r : Request X) (root : ObjectType) (initial : X) (selections : List Selection) where
  only-on : (response : ExecutionResponse) (it : Verdict) → IsVerdictOn r root initial selections response it
      → IsVerdictOn r root initial selections response Explained → it ≡ Explained
  only-on response it one other =
      one.is ∙ ap verdict_of (one.judged.explained (subst (IsJudgementOn r root initial selections response) (explained-is other.judgement other.is) other.judged.is))

  only-of : (read : Result ExecutionResponse ResponseFault) (it : Verdict) → IsVerdictOf r root initial selections read it
      → IsVerdictOf r root initial selections read Explained → it ≡ Explained
  only-of (Ok response) it one other = only-on response it one other
  only-of (Err fault) it one other = absurd (let e : Explained ≡ NotResponse fault = other in cc)

module _ {X : Type 0} (introspection : Bool) (schema : Schema) (document : ExecutableDocument) (operation : Operation) (variables : Members)
    (types : X → List ℕ) (resolves : Resolving X) (initial : X) (read : Result ExecutionResponse ResponseFault) (it : Verdict) where
  only-over : IsVerdictOver introspection schema document operation variables types resolves initial read it
      → IsVerdictOver introspection schema document operation variables types resolves initial read Explained → it ≡ Explained
  only-over one other =
      let some : Some other.root ≡ Some one.root = sym other.found ∙ one.found in
      let same : other.root ≡ one.root = cc in
      let r = request_by introspection schema document variables types resolves in
      only-of r one.root initial operation.selection_set.selections read it one.is
      (subst (λ (root : ObjectType). IsVerdictOf r root initial operation.selection_set.selections read Explained) same other.is)

only-by : {X : Type 0} (introspection : Bool) (schema : Schema) (document : ExecutableDocument) (operation : Operation) (variables : Members)
    (types : X → List ℕ) (resolves : Resolving X) (initial : X) (read : Result ExecutionResponse ResponseFault) (it : Verdict)
    → IsVerdictBy introspection schema document operation variables types resolves initial read it
    → IsVerdictBy introspection schema document operation variables types resolves initial read Explained → it ≡ Explained
only-by true schema document operation variables types resolves initial read it =
    only-over true schema document operation variables (type_of_thing types) (thing_meaning resolves) (of_user schema initial) read it
only-by false schema document operation variables types resolves initial read it =
    only-over false schema document operation variables types resolves initial read it

pub record IsOneWay (wanted : Wanted) : Type 0 where
  pub schema : (one other : Ready wanted) → one.meant.schema ≡ other.meant.schema
  pub document : (one other : Ready wanted) → one.meant.document ≡ other.meant.document
  pub operation : (one other : Ready wanted) → one.operation ≡ other.operation
  pub variables : (one other : Ready wanted) → one.variables ≡ other.variables

module _ {X : Type 0} (types : X → List ℕ) (resolves : Resolving X) (root : X) (wanted : Wanted) (way : IsOneWay wanted) (response : List ℕ) where
  abbrev At : Schema → ExecutableDocument → Operation → Members → Verdict → Type 0
  At schema document operation variables =
      IsVerdictBy wanted.introspection schema document operation variables types resolves root (response_read response)

  moved : (one other : Ready wanted) (it : Verdict) → At other.meant.schema other.meant.document other.operation other.variables it
      → At one.meant.schema one.meant.document one.operation one.variables it
  moved one other it is =
      subst (λ (S : Schema). At S one.meant.document one.operation one.variables it) (way.schema other one)
      (subst (λ (Q : ExecutableDocument). At other.meant.schema Q one.operation one.variables it) (way.document other one)
      (subst (λ (o : Operation). At other.meant.schema other.meant.document o one.variables it) (way.operation other one)
      (subst (λ (v : Members). At other.meant.schema other.meant.document other.operation v it) (way.variables other one) is)))

  pub only-explained : (it : Verdict) → IsJudged types resolves root wanted response it → IsJudged types resolves root wanted response Explained
      → it ≡ Explained
  only-explained it one other =
      only-by wanted.introspection one.ready.meant.schema one.ready.meant.document one.ready.operation one.ready.variables types resolves root
      (response_read response) it one.judged (moved one.ready other.ready Explained other.judged)

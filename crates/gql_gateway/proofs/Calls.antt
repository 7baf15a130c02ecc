-- What a gateway makes of what stands below, and what a call gives by what is wanted with its variables.
use Rattle.std.proofs.Common.{◌≡◌, ℕ, List, Result, Ok, Err, IfOk, IfErr, sym, subst}
use Rattle.jb_text.specs.declared.refused.Refused.{Refused}
use Rattle.jb_text.specs.declared.refused.Refused.TheVariants as refused
use Rattle.gql_ast_base.specs.Names.{Named}
use Rattle.gql_document_types.specs.declared.document.ExecutableDocument.{ExecutableDocument}
use Rattle.gql_document_types.specs.declared.operation.Operation.{Operation}
use Rattle.gql_engine.specs.AnswerError.{Asks, Call, HasCause, IsObjectText, wanted_with}
use Rattle.gql_engine.specs.Ready.{Ready}
use Rattle.gql_engine.specs.Responding.{HasCauseOf}
use Rattle.gql_engine.specs.Wanted.{Members, Wanted}
use Rattle.gql_engine.specs.declared.answer_error.AnswerError.{AnswerError}
use Rattle.gql_engine.specs.declared.answer_error.AnswerError.TheVariants as error
use Rattle.gql_gateway.specs.Divided.{DividesTo, IsBeforeRemote, LeavesNothing}
use Rattle.gql_gateway.specs.Remote.{Telling}
use Rattle.gql_gateway.specs.declared.dividing.DivideFault.{DivideFault}
use Rattle.gql_gateway.specs.declared.dividing.DivideFault.TheVariants as fault
use Rattle.gql_gateway.specs.Causes.{CauseBy, HasGatewayCause, HasLocalCause, IsBeforeAsking}
use Rattle.gql_gateway.specs.bridge.Causes.{HasGatewayCauseOf, JoinsOrCause}
use Rattle.gql_gateway.specs.Gateway.{AsksNobody, Fits, IsJoinedBy, IsTooLarge, LacksKey}
use Rattle.gql_gateway.specs.Told.{of_answer}
use Rattle.gql_gateway.specs.bridge.Told.{of_division}
use Rattle.gql_gateway.specs.declared.gateway_error.GatewayError.{GatewayError}
use Rattle.gql_gateway.specs.declared.gateway_error.GatewayError.TheVariants.{Answer, TooLarge, Remote, MissingKey, Memory}

-- ---- refusals of the engine

module _ (Cause : AnswerError → Type 0) (Large Failed : Type 0) (Lacks : Named → Type 0) where
  of-engine : (refusal : AnswerError) → Cause refusal → CauseBy Cause Large Failed Lacks (of_answer refusal)
  of-engine error.Memory cause = tt
  of-engine (error.Variables why) cause = ((λ is. cc), cause)
  of-engine (error.Schema list) cause = ((λ is. cc), cause)
  of-engine (error.Document list) cause = ((λ is. cc), cause)
  of-engine (error.Request kind told) cause = ((λ is. cc), cause)

  pub engine-caused : (refusal : AnswerError) → Cause refusal → (told : GatewayError) → told ≡ of_answer refusal → CauseBy Cause Large Failed Lacks told
  engine-caused refusal cause told is = subst (CauseBy Cause Large Failed Lacks) (sym is) (of-engine refusal cause)

-- ---- divisions

module _ (tells : Telling) (Failed : Type 0) (wanted : Wanted) (ready : Ready wanted) where
  of-parts : (why : Refused DivideFault)
      → DividesTo tells Failed ready.meant.schema ready.meant.document ready.operation ready.variables (Err why)
      → HasGatewayCauseOf tells Failed wanted (of_division why)
  of-parts (refused.Fault fault.TooLarge) large = record { ready = ready; large = large }
  of-parts (refused.Fault fault.Remote) failed = (record { ready = ready; within = failed.0 }, failed.1)
  of-parts (refused.Fault (fault.MissingKey key)) divides = record { ready = ready; divides = divides }
  of-parts refused.Memory free = tt

  pub division-caused : (why : Refused DivideFault)
      → DividesTo tells Failed ready.meant.schema ready.meant.document ready.operation ready.variables (Err why)
      → (told : GatewayError) → told ≡ of_division why → HasGatewayCauseOf tells Failed wanted told
  division-caused why cause told is = subst (HasGatewayCauseOf tells Failed wanted) (sym is) (of-parts why cause)

before-parts : (why : Refused DivideFault) → IsBeforeAsking (of_division why) → IsBeforeRemote why
before-parts (refused.Fault fault.TooLarge) before = tt
before-parts (refused.Fault fault.Remote) before = absurd before
before-parts (refused.Fault (fault.MissingKey key)) before = absurd before
before-parts refused.Memory before = absurd before

pub division-unasked : (why : Refused DivideFault) (told : GatewayError) → told ≡ of_division why → IsBeforeAsking told → IsBeforeRemote why
division-unasked why told is before = before-parts why (subst IsBeforeAsking is before)

-- where nothing is left for the other place of what is wanted, nothing is left of an operation that is ready for it
pub nobody-left : ((wanted : Wanted) (one other : Ready wanted) → one.meant.document ≡ other.meant.document)
    → ((wanted : Wanted) (one other : Ready wanted) → one.operation ≡ other.operation) → (wanted : Wanted) (ready : Ready wanted) → AsksNobody wanted
    → LeavesNothing ready.meant.document ready.operation
nobody-left one-document one-operation wanted ready nobody =
    let its = nobody.ready in
    subst (λ (d : ExecutableDocument). LeavesNothing d ready.operation) (one-document wanted its ready)
    (subst (λ (o : Operation). LeavesNothing its.meant.document o) (one-operation wanted its ready) nobody.leaves)

-- ---- a call

module _ (tells : Telling) (Failed : Type 0) (call : Call) (members : Members) (object : IsObjectText call.variables members)
    (lifted : (refusal : AnswerError) → HasCauseOf (wanted_with call members) refusal → HasCause call refusal) where
  refusal-lifted : (told : GatewayError) → HasGatewayCauseOf tells Failed (wanted_with call members) told → HasGatewayCause tells Failed call told
  refusal-lifted (Answer refusal) cause = (cause.0, lifted refusal cause.1)
  refusal-lifted TooLarge large = record { members = members; object = object; holds = large }
  refusal-lifted Remote failed = (record { members = members; object = object; holds = failed.0 }, failed.1)
  refusal-lifted (MissingKey key) lacks = record { members = members; object = object; holds = lacks }
  refusal-lifted Memory free = tt

  pub call-answered : (result : Result (List ℕ) GatewayError) → JoinsOrCause tells Failed (wanted_with call members) result
      → IfOk result (λ bytes. Asks call (λ wanted. IsJoinedBy tells wanted bytes))
  call-answered (Ok bytes) joined = record { members = members; object = object; holds = joined }
  call-answered (Err told) cause = tt

  pub call-refused : (result : Result (List ℕ) GatewayError) → JoinsOrCause tells Failed (wanted_with call members) result
      → IfErr result (HasGatewayCause tells Failed call)
  call-refused (Ok bytes) joined = tt
  call-refused (Err told) cause = refusal-lifted told cause

-- ---- where the other place neither fails nor lacks a key

module _ (tells : Telling) (Failed : Type 0) (wanted : Wanted) (never : Failed → ⊥) (none : (key : Named) → LacksKey tells wanted key → ⊥) where
  local-cause : (told : GatewayError) → HasGatewayCauseOf tells Failed wanted told → HasLocalCause wanted told
  local-cause (Answer refusal) cause = cause
  local-cause TooLarge large = large
  local-cause Remote failed = never failed.1
  local-cause (MissingKey key) lacks = none key lacks
  local-cause Memory free = tt

  pub local-answered : (result : Result (List ℕ) GatewayError) → JoinsOrCause tells Failed wanted result → IfOk result (IsJoinedBy tells wanted)
  local-answered (Ok bytes) joined = joined
  local-answered (Err told) cause = tt

  pub local-refused : (result : Result (List ℕ) GatewayError) → JoinsOrCause tells Failed wanted result → IfErr result (HasLocalCause wanted)
  local-refused (Ok bytes) joined = tt
  local-refused (Err told) cause = local-cause told cause

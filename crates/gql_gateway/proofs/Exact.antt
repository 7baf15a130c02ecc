-- A refusal comes where its cause holds, and no other comes then.
use Rattle.std.proofs.Common.{arith, ◌≡◌, ◌≢◌, ◌≤◌, ℕ, List, Result, Ok, Err, IfOk, IfErr, IsErrAnd, refl, sym, ap, ◌∙◌, subst}
use Rattle.gql_ast_base.specs.Names.{Named}
use Rattle.gql_document_types.specs.declared.document.ExecutableDocument.{ExecutableDocument}
use Rattle.gql_document_types.specs.declared.operation.Operation.{Operation}
use Rattle.gql_engine.specs.AnswerError.{Asks, Call, ComesFor, HasCause, IsObjectText, IsValid, wanted_with}
use Rattle.gql_engine.specs.Ready.{Ready}
use Rattle.gql_engine.specs.Responding.{HasCauseOf}
use Rattle.gql_engine.specs.Wanted.{Members, Wanted}
use Rattle.gql_engine.specs.declared.answer_error.AnswerError.{AnswerError}
use Rattle.gql_engine.specs.declared.answer_error.AnswerError.TheVariants as error
use Rattle.gql_gateway.specs.Divided.{count_of}
use Rattle.gql_gateway.specs.Remote.{Telling}
use Rattle.gql_gateway.specs.Answering.{GivesJoined}
use Rattle.gql_gateway.specs.Causes.{CauseBy, ComesForCause, ComesForFitting, ComesForSize, HasGatewayCause, HasLocalCause}
use Rattle.gql_gateway.specs.Gateway.{Fits, IsJoinedBy, IsTooLarge, LacksKey}
use Rattle.gql_gateway.specs.declared.gateway_error.GatewayError.{GatewayError}
use Rattle.gql_gateway.specs.declared.gateway_error.GatewayError.TheVariants.{Answer, TooLarge, Remote, MissingKey, Memory}

-- whatever the causes are: none of the engine's holds of what is valid, and what fits is not too large
module _ (Cause : AnswerError → Type 0) (Valid Fit Large Failed : Type 0) (Lacks : Named → Type 0)
    (fit-valid : Fit → Valid) (large-valid : Large → Valid) (failed-fits : Failed → Fit) (lacks-fits : (key : Named) → Lacks key → Fit)
    (apart : Fit → Large → ⊥) (no-cause : (refusal : AnswerError) → Valid → Cause refusal → refusal ≡ error.Memory)
    (alike : (refusal told : AnswerError) → refusal ≢ error.Memory → Cause refusal → Cause told → ComesFor refusal told) where
  come : (refusal : AnswerError) → refusal ≢ error.Memory → Cause refusal → (told : GatewayError) → CauseBy Cause Large Failed Lacks told
      → ComesForCause refusal told
  come refusal not cause (Answer told) other = alike refusal told not cause other.1
  come refusal not cause TooLarge large = not (no-cause refusal (large-valid large) cause)
  come refusal not cause Remote failed = not (no-cause refusal (fit-valid (failed-fits failed)) cause)
  come refusal not cause (MissingKey key) lacks = not (no-cause refusal (fit-valid (lacks-fits key lacks)) cause)
  come refusal not cause Memory free = tt

  come-large : Large → (told : GatewayError) → CauseBy Cause Large Failed Lacks told → ComesForSize told
  come-large large (Answer told) other = other.0 (no-cause told (large-valid large) other.1)
  come-large large TooLarge also = tt
  come-large large Remote failed = apart (failed-fits failed) large
  come-large large (MissingKey key) lacks = apart (lacks-fits key lacks) large
  come-large large Memory free = tt

  pub come-fitting : Fit → (told : GatewayError) → CauseBy Cause Large Failed Lacks told → ComesForFitting told
  come-fitting fit (Answer told) other = other.0 (no-cause told (fit-valid fit) other.1)
  come-fitting fit TooLarge large = apart fit large
  come-fitting fit Remote failed = tt
  come-fitting fit (MissingKey key) lacks = tt
  come-fitting fit Memory free = tt

  pub none-fits : Fit → (told : GatewayError) → told ≢ Memory → (Failed → ⊥) → ((key : Named) → Lacks key → ⊥) → CauseBy Cause Large Failed Lacks told → ⊥
  none-fits fit (Answer told) not far none other = other.0 (no-cause told (fit-valid fit) other.1)
  none-fits fit TooLarge not far none large = apart fit large
  none-fits fit Remote not far none failed = far failed
  none-fits fit (MissingKey key) not far none lacks = none key lacks
  none-fits fit Memory not far none free = not refl

  pub memory-fits : Fit → (told : GatewayError) → (Failed → ⊥) → ((key : Named) → Lacks key → ⊥) → CauseBy Cause Large Failed Lacks told → told ≡ Memory
  memory-fits fit (Answer told) far none other = absurd (other.0 (no-cause told (fit-valid fit) other.1))
  memory-fits fit TooLarge far none large = absurd (apart fit large)
  memory-fits fit Remote far none failed = absurd (far failed)
  memory-fits fit (MissingKey key) far none lacks = absurd (none key lacks)
  memory-fits fit Memory far none free = refl

  module _ {A : Type 0} (P : A → Type 0) (is-fit : (found : A) → P found → Fit) where
    pub exact-of : (result : Result A GatewayError) → IfOk result P → IfErr result (CauseBy Cause Large Failed Lacks)
        → (refusal : AnswerError) → refusal ≢ error.Memory → Cause refusal → IsErrAnd result (ComesForCause refusal)
    exact-of (Ok found) is told refusal not cause = absurd (not (no-cause refusal (fit-valid (is-fit found is)) cause))
    exact-of (Err other) is told refusal not cause = come refusal not cause other told

    pub large-of : (result : Result A GatewayError) → IfOk result P → IfErr result (CauseBy Cause Large Failed Lacks) → Large → IsErrAnd result ComesForSize
    large-of (Ok found) is told large = absurd (apart (is-fit found is) large)
    large-of (Err other) is told large = come-large large other told

  pub fitting-of : {A : Type 0} (result : Result A GatewayError) → IfErr result (CauseBy Cause Large Failed Lacks) → Fit → IfErr result ComesForFitting
  fitting-of (Ok found) told fit = tt
  fitting-of (Err other) told fit = come-fitting fit other told

-- ---- what the laws of the engine say

pub record EngineLaws : Type 0 where
  pub calls : (call : Call) (refusal told : AnswerError) → refusal ≢ error.Memory → HasCause call refusal → HasCause call told → ComesFor refusal told
  pub valid : (call : Call) (refusal : AnswerError) → IsValid call → HasCause call refusal → refusal ≡ error.Memory
  pub wanted : (wanted : Wanted) (refusal told : AnswerError) → refusal ≢ error.Memory → HasCauseOf wanted refusal → HasCauseOf wanted told
      → ComesFor refusal told
  pub ready : (wanted : Wanted) (refusal : AnswerError) → Ready wanted → HasCauseOf wanted refusal → refusal ≡ error.Memory
  pub document : (wanted : Wanted) (one other : Ready wanted) → one.meant.document ≡ other.meant.document
  pub operation : (wanted : Wanted) (one other : Ready wanted) → one.operation ≡ other.operation
  pub members : (text : List ℕ) (one other : Members) → IsObjectText text one → IsObjectText text other → one ≡ other

module _ (laws : EngineLaws) where
  -- what is wanted is ready in one way, and so its expansion has one size
  sizes-apart : (wanted : Wanted) → Fits wanted → IsTooLarge wanted → ⊥
  sizes-apart wanted fits large =
      let one = fits.ready in
      let other = large.ready in
      let same : count_of one.meant.document one.operation ≡ count_of other.meant.document other.operation =
      ap (λ (document : ExecutableDocument). count_of document one.operation) (laws.document wanted one other)
      ∙ ap (λ (operation : Operation). count_of other.meant.document operation) (laws.operation wanted one other) in
      absurd (omega (arith, fits.within, large.large, same))

  -- ---- of what is wanted, where the other place neither fails nor lacks a key

  module _ (wanted : Wanted) where
    pub local-never : Fits wanted → (told : GatewayError) → told ≢ Memory → HasLocalCause wanted told → ⊥
    local-never fits told not cause =
        none-fits (HasCauseOf wanted) (Ready wanted) (Fits wanted) (IsTooLarge wanted) ⊥ (λ key. ⊥) (λ it. it.ready) (λ it. it.ready)
        (λ none. absurd none) (λ key none. absurd none) (sizes-apart wanted) (λ e ready cause. laws.ready wanted e ready cause) (laws.wanted wanted)
        fits told not (λ none. none) (λ key none. none) cause

    pub local-memory : Fits wanted → (told : GatewayError) → HasLocalCause wanted told → told ≡ Memory
    local-memory fits told cause =
        memory-fits (HasCauseOf wanted) (Ready wanted) (Fits wanted) (IsTooLarge wanted) ⊥ (λ key. ⊥) (λ it. it.ready) (λ it. it.ready)
        (λ none. absurd none) (λ key none. absurd none) (sizes-apart wanted) (λ e ready cause. laws.ready wanted e ready cause) (laws.wanted wanted)
        fits told (λ none. none) (λ key none. none) cause

  -- ---- of a call

  module _ (tells : Telling) (Failed : Type 0) (call : Call) where
    fits-valid : Asks call Fits → IsValid call
    fits-valid it = record { members = it.members; object = it.object; holds = it.holds.ready }

    large-valid-call : Asks call IsTooLarge → IsValid call
    large-valid-call it = record { members = it.members; object = it.object; holds = it.holds.ready }

    calls-apart : Asks call Fits → Asks call IsTooLarge → ⊥
    calls-apart fits large =
        sizes-apart (wanted_with call large.members)
        (subst (λ members. Fits (wanted_with call members)) (laws.members call.variables fits.members large.members fits.object large.object) fits.holds)
        large.holds

    lacks-fits-call : (key : Named) → Asks call (λ wanted. LacksKey tells wanted key) → Asks call Fits
    lacks-fits-call key it = record {
      members = it.members;
      object = it.object;
      holds = record { ready = it.holds.ready; within = it.holds.divides.within };
    }

    joined-fits : (bytes : List ℕ) → Asks call (λ wanted. IsJoinedBy tells wanted bytes) → Asks call Fits
    joined-fits bytes it = record {
      members = it.members;
      object = it.object;
      holds = record { ready = it.holds.ready; within = it.holds.divides.within };
    }

    pub gives-joined : (result : Result (List ℕ) GatewayError) → IfOk result (λ bytes. Asks call (λ wanted. IsJoinedBy tells wanted bytes))
        → IfErr result (HasGatewayCause tells Failed call) → GivesJoined tells Failed call result
    gives-joined result answered refused = record {
      answered = answered;
      refused = refused;
      exact =
          exact-of (HasCause call) (IsValid call) (Asks call Fits) (Asks call IsTooLarge) (Asks call Fits × Failed)
          (λ key. Asks call (λ wanted. LacksKey tells wanted key)) fits-valid large-valid-call (λ it. it.0) lacks-fits-call calls-apart
          (λ e valid cause. laws.valid call e valid cause) (laws.calls call)
          (λ (bytes : List ℕ). Asks call (λ wanted. IsJoinedBy tells wanted bytes)) joined-fits result answered refused;
      too_large =
          large-of (HasCause call) (IsValid call) (Asks call Fits) (Asks call IsTooLarge) (Asks call Fits × Failed)
          (λ key. Asks call (λ wanted. LacksKey tells wanted key)) fits-valid large-valid-call (λ it. it.0) lacks-fits-call calls-apart
          (λ e valid cause. laws.valid call e valid cause) (laws.calls call)
          (λ (bytes : List ℕ). Asks call (λ wanted. IsJoinedBy tells wanted bytes)) joined-fits result answered refused;
      fitting =
          fitting-of (HasCause call) (IsValid call) (Asks call Fits) (Asks call IsTooLarge) (Asks call Fits × Failed)
          (λ key. Asks call (λ wanted. LacksKey tells wanted key)) fits-valid large-valid-call (λ it. it.0) lacks-fits-call calls-apart
          (λ e valid cause. laws.valid call e valid cause) (laws.calls call) result refused;
    }

-- Why a gateway gives no response. Want of memory alone is free.
use Rattle.std.specs.Prelude.{◌≢◌}
use Rattle.gql_ast_base.specs.Names.{Named}
use Rattle.gql_engine.specs.AnswerError.{Asks, Call, ComesFor, HasCause}
use Rattle.gql_engine.specs.Responding.{HasCauseOf}
use Rattle.gql_engine.specs.Wanted.{Wanted}
use Rattle.gql_engine.specs.declared.answer_error.AnswerError.{AnswerError}
use Rattle.gql_engine.specs.declared.answer_error.AnswerError.TheVariants as error
use Rattle.gql_gateway.specs.Remote.{Telling}
use Rattle.gql_gateway.specs.Gateway.{Fits, IsTooLarge, LacksKey}
use Rattle.gql_gateway.specs.declared.gateway_error.GatewayError.{GatewayError}
use Rattle.gql_gateway.specs.declared.gateway_error.GatewayError.TheVariants.{Answer, TooLarge, Remote, MissingKey, Memory}

-- a cause of each refusal, by those of the engine, which tells want of memory otherwise here
abbrev pub CauseBy : (AnswerError → Type 0) → (Large Failed : Type 0) → (Named → Type 0) → GatewayError → Type 0
CauseBy Cause Large Failed Lacks (Answer refusal) = (refusal ≢ error.Memory) × Cause refusal
CauseBy Cause Large Failed Lacks TooLarge = Large
CauseBy Cause Large Failed Lacks Remote = Failed
CauseBy Cause Large Failed Lacks (MissingKey key) = Lacks key
CauseBy Cause Large Failed Lacks Memory = Unit {0}

-- of a call
abbrev pub HasGatewayCause : Telling → Type 0 → Call → GatewayError → Type 0
HasGatewayCause tells Failed call =
    CauseBy (HasCause call) (Asks call IsTooLarge) (Asks call Fits × Failed) (λ key. Asks call (λ wanted. LacksKey tells wanted key))

-- of what is wanted, where the other place neither fails nor lacks a key
abbrev pub HasLocalCause : Wanted → GatewayError → Type 0
HasLocalCause wanted = CauseBy (HasCauseOf wanted) (IsTooLarge wanted) ⊥ (λ key. ⊥)

-- ---- which refusals come

-- where the engine has this cause: that one, or want of memory
abbrev pub ComesForCause : AnswerError → GatewayError → Type 0
ComesForCause refusal (Answer told) = ComesFor refusal told
ComesForCause refusal Memory = Unit {0}
ComesForCause refusal told = ⊥

-- where the operation is too large
abbrev pub ComesForSize : GatewayError → Type 0
ComesForSize TooLarge = Unit {0}
ComesForSize Memory = Unit {0}
ComesForSize told = ⊥

-- where nothing is in the way of a division: what only the other place can bring, or want of memory
abbrev pub ComesForFitting : GatewayError → Type 0
ComesForFitting (Answer told) = ⊥
ComesForFitting TooLarge = ⊥
ComesForFitting told = Unit {0}

-- the other place is not asked before these
abbrev pub IsBeforeAsking : GatewayError → Type 0
IsBeforeAsking (Answer told) = Unit {0}
IsBeforeAsking TooLarge = Unit {0}
IsBeforeAsking told = ⊥

-- What a call of a gateway gives.
use Rattle.std.specs.Prelude.{◌≡◌, ◌≢◌, ℕ, List, Result, IfOk, IfErr, IsErrAnd}
use Rattle.gql_engine.specs.AnswerError.{Asks, Call, HasCause}
use Rattle.gql_engine.specs.declared.answer_error.AnswerError.{AnswerError}
use Rattle.gql_engine.specs.declared.answer_error.AnswerError.TheVariants as error
use Rattle.gql_gateway.specs.Remote.{Telling}
use Rattle.gql_gateway.specs.Causes.{ComesForCause, ComesForFitting, ComesForSize, HasGatewayCause}
use Rattle.gql_gateway.specs.Gateway.{Fits, IsJoinedBy, IsTooLarge}
use Rattle.gql_gateway.specs.declared.gateway_error.GatewayError.{GatewayError}

-- A joined response to what the call wants, or a refusal by its cause. Where the engine has a cause to refuse, its refusal comes, and
-- where the operation is too large, that for its size; and where nothing is in the way of a division neither comes. Memory may fail.
pub record GivesJoined (tells : Telling) (Failed : Type 0) (call : Call) (result : Result (List ℕ) GatewayError) : Type 0 where
  pub answered : IfOk result (λ bytes. Asks call (λ wanted. IsJoinedBy tells wanted bytes))
  pub refused : IfErr result (HasGatewayCause tells Failed call)
  pub exact : (refusal : AnswerError) → refusal ≢ error.Memory → HasCause call refusal → IsErrAnd result (ComesForCause refusal)
  pub too_large : Asks call IsTooLarge → IsErrAnd result ComesForSize
  pub fitting : Asks call Fits → IfErr result ComesForFitting

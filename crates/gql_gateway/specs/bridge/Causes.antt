-- What only private clauses and proofs cite, beside `Causes`.
use Rattle.std.specs.Prelude.{ℕ, List, Result, Ok, Err}
use Rattle.gql_engine.specs.Responding.{HasCauseOf}
use Rattle.gql_engine.specs.Wanted.{Wanted}
use Rattle.gql_gateway.specs.Remote.{Telling}
use Rattle.gql_gateway.specs.Gateway.{Fits, IsJoinedBy, IsTooLarge, LacksKey}
use Rattle.gql_gateway.specs.declared.gateway_error.GatewayError.{GatewayError}
use Rattle.gql_gateway.specs.Causes.{CauseBy}

-- of what is wanted, where the other place tells this, and where it failed if the second holds
abbrev pub HasGatewayCauseOf : Telling → Type 0 → Wanted → GatewayError → Type 0
HasGatewayCauseOf tells Failed wanted = CauseBy (HasCauseOf wanted) (IsTooLarge wanted) (Fits wanted × Failed) (LacksKey tells wanted)

-- the joined response to what is wanted, or the cause of a refusal
abbrev pub JoinsOrCause : Telling → Type 0 → Wanted → Result (List ℕ) GatewayError → Type 0
JoinsOrCause tells Failed wanted (Ok bytes) = IsJoinedBy tells wanted bytes
JoinsOrCause tells Failed wanted (Err refusal) = HasGatewayCauseOf tells Failed wanted refusal

use Rattle.std.proofs.Common.{IfOk, sym, subst}
use Rattle.gql_gateway.specs.Told.{IsGatewayTold}
use Rattle.gql_gateway.specs.declared.gateway_error.GatewayError.{GatewayError}
use Rattle.gql_gateway.proofs.gateway_error.GatewayError.into_bytes.Goals as goal

pub returns-in-TooLarge : goal.returns-in-TooLarge
returns-in-TooLarge c =
    subst (λ (refusal : GatewayError). IfOk c.refusal_of_message.result (IsGatewayTold refusal)) (sym c.in-TooLarge.is) c.refusal_of_message.ensures

pub returns-in-Remote : goal.returns-in-Remote
returns-in-Remote c =
    subst (λ (refusal : GatewayError). IfOk c.refusal_of_message-in-Remote.result (IsGatewayTold refusal)) (sym c.in-Remote.is)
    c.refusal_of_message-in-Remote.ensures

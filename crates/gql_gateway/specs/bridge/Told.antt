-- What only private clauses and proofs cite, beside `Told`.
use Rattle.std.specs.Prelude.{◌≡◌, ℕ, List}
use Rattle.jb_text.specs.declared.refused.Refused.{Refused}
use Rattle.jb_text.specs.declared.refused.Refused.TheVariants as refused
use Rattle.gql_engine.specs.Serving.{line}
use Rattle.gql_engine.specs.declared.output.Output.{Output}
use Rattle.gql_engine.specs.declared.output.Output.TheVariants as outputs
use Rattle.gql_gateway.specs.declared.dividing.DivideFault.{DivideFault}
use Rattle.gql_gateway.specs.declared.dividing.DivideFault.TheVariants as fault
use Rattle.gql_gateway.specs.declared.gateway_error.GatewayError.{GatewayError}
use Rattle.gql_gateway.specs.declared.gateway_error.GatewayError.TheVariants.{TooLarge, Remote, MissingKey, Memory}
use Rattle.gql_gateway.specs.Told.{IsGatewayTold}

-- the output is the line of that
abbrev pub IsGatewayLine : GatewayError → Output → Type 0
IsGatewayLine refusal output = (text : List ℕ) × IsGatewayTold refusal text × (output ≡ outputs.Refused (line text))

abbrev pub of_division : Refused DivideFault → GatewayError
of_division (refused.Fault fault.TooLarge) = TooLarge
of_division (refused.Fault fault.Remote) = Remote
of_division (refused.Fault (fault.MissingKey key)) = MissingKey key
of_division refused.Memory = Memory

-- What the program replies to a request, whose own data are what the other place executes on.
use Rattle.std.specs.Prelude.{◌≡◌, ◌≢◌, ℕ, true, List}
use Rattle.gql_engine.specs.Answered.{Answered}
use Rattle.gql_engine.specs.Request.{Asked}
use Rattle.gql_engine.specs.Reply.{root_of, wanted_of}
use Rattle.gql_engine.specs.Serving.{line}
use Rattle.gql_engine.specs.Wanted.{Wanted}
use Rattle.gql_gateway.specs.Remote.{Telling, TellsBy}
use Rattle.gql_resolvers.specs.Data.{Data}
use Rattle.gql_resolvers.specs.DataMeaning.{data_meaning}
use Rattle.gql_gateway.specs.Causes.{HasLocalCause}
use Rattle.gql_gateway.specs.Gateway.{Fits, HasData, IsJoinedBy}
use Rattle.gql_gateway.specs.Told.{IsGatewayTold}
use Rattle.gql_gateway.specs.declared.gateway_error.GatewayError.{GatewayError}
use Rattle.gql_gateway.specs.declared.gateway_error.GatewayError.TheVariants.{Memory}

-- what the request wants, with introspection on whatever it says of that
abbrev pub wanted_here : Asked → Wanted
wanted_here request = record (wanted_of request) { introspection = true }

-- exactly the execution on this object of the data
abbrev pub DataTells : Data → Telling
DataTells root = TellsBy (λ object. object.type_name) data_meaning root

-- The text is the line of a joined response to the request. Where the response that is not divided has data, it is that one, byte for
-- byte.
pub record Answers (request : Asked) (text : List ℕ) : Type 0 where
  pub bytes : List ℕ
  pub joined : IsJoinedBy (DataTells (root_of request)) (wanted_here request) bytes
  pub whole : (other : List ℕ) (answered : Answered (λ object. object.type_name) data_meaning (root_of request) (wanted_here request) other)
      → HasData answered → bytes ≡ other
  pub written : text ≡ line bytes

-- the text says why the request is refused
pub record Refuses (request : Asked) (text : List ℕ) : Type 0 where
  pub refusal : GatewayError
  pub cause : HasLocalCause (wanted_here request) refusal
  pub told : List ℕ
  pub says : IsGatewayTold refusal told
  pub written : text ≡ line told

-- nothing is in the way of a response
abbrev pub MustAnswer : Asked → Type 0
MustAnswer request = Fits (wanted_here request)

-- there is a cause of a refusal
pub record MustRefuse (request : Asked) : Type 0 where
  pub refusal : GatewayError
  pub told : refusal ≢ Memory
  pub cause : HasLocalCause (wanted_here request) refusal

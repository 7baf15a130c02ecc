-- What a gateway answers to what is wanted: the operation, divided between here and another place (sections 4, 6 and 7 of GraphQL
-- October 2021).
use Rattle.std.specs.Prelude.{◌≡◌, ℕ, List, Some, Ok, Err}
use Rattle.jb_print.specs.Compact.{compact}
use Rattle.gql_ast_base.specs.Names.{Named}
use Rattle.gql_engine.specs.Answered.{Answered}
use Rattle.gql_exec.specs.ThingMeaning.{Resolving}
use Rattle.gql_engine.specs.Ready.{Ready}
use Rattle.gql_engine.specs.Wanted.{Members, Wanted}
use Rattle.gql_gateway.specs.Divided.{Divides, IsLarge, IsWithin, LeavesNothing}
use Rattle.gql_gateway.specs.Remote.{Telling}
use Rattle.gql_response.specs.Response.{response_value}
use Rattle.gql_response.specs.declared.execution_response.ExecutionResponse.{ExecutionResponse}

-- Nothing is in the way of a response, and the bytes are the one that is joined of two: of what is executed here, and of what the
-- other place tells.
pub record IsJoinedBy (tells : Telling) (wanted : Wanted) (bytes : List ℕ) : Type 0 where
  pub ready : Ready wanted
  pub response : ExecutionResponse
  pub divides : Divides tells ready.meant.schema ready.meant.document ready.operation ready.variables (Ok response)
  pub written : bytes ≡ compact (response_value response)

-- both responses have data, and that of the other place lacks this response key, the first such
pub record LacksKey (tells : Telling) (wanted : Wanted) (key : Named) : Type 0 where
  pub ready : Ready wanted
  pub divides : Divides tells ready.meant.schema ready.meant.document ready.operation ready.variables (Err key)

-- nothing is in the way of a division
pub record Fits (wanted : Wanted) : Type 0 where
  pub ready : Ready wanted
  pub within : IsWithin ready.meant.document ready.operation

-- the operation has too many selections, once each spread is replaced, and nothing else is in the way of a division
pub record IsTooLarge (wanted : Wanted) : Type 0 where
  pub ready : Ready wanted
  pub large : IsLarge ready.meant.document ready.operation

-- nothing is in the way of a division, its size aside, and nothing is left for the other place
pub record AsksNobody (wanted : Wanted) : Type 0 where
  pub ready : Ready wanted
  pub leaves : LeavesNothing ready.meant.document ready.operation

-- a response that was written has data
abbrev pub HasData : {X : Type 0} {type_of : X → List ℕ} {resolves : Resolving X} {root : X} {wanted : Wanted} {bytes : List ℕ}
    → Answered type_of resolves root wanted bytes → Type 0
HasData answered = (members : Members) × (answered.executed.response.root ≡ Some members)

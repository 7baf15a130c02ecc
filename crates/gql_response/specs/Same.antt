-- Errors and responses that are the same once the order of the pairs of maps and the places of names are left aside.
use Rattle.std.specs.Prelude.{◌≡◌, List, [], ◌∷◌, map}
use Rattle.jb_tree.specs.Same.{Same}
use Rattle.jb_tree.specs.declared.value.Value.TheVariants as json
use Rattle.gql_response.specs.declared.graphql_error.GraphQLError.{GraphQLError}
use Rattle.gql_response.specs.declared.execution_response.ExecutionResponse.{ExecutionResponse}
use Rattle.gql_response.specs.Response.{data_value}
use Rattle.gql_response.specs.Held.{unplaced_segment}

pub record IsSameError (error other : GraphQLError) : Type 0 where
  pub message : error.message ≡ other.message
  pub locations : error.locations ≡ other.locations
  pub path : map unplaced_segment error.path ≡ map unplaced_segment other.path
  pub extensions : Same (json.Object error.extensions) (json.Object other.extensions)

-- error by error, in order
abbrev pub AreSameErrors : List GraphQLError → List GraphQLError → Type 0
AreSameErrors [] [] = Unit {0}
AreSameErrors (error ∷ errors) (other ∷ others) = IsSameError error other × AreSameErrors errors others
AreSameErrors _ _ = ⊥

pub record IsSameResponse (response other : ExecutionResponse) : Type 0 where
  pub errors : AreSameErrors response.errors other.errors
  pub root : Same (data_value response.root) (data_value other.root)

-- A response without errors that has these data: section 7.1 of GraphQL October 2021.
use Rattle.std.specs.Prelude.{◌≡◌, List, [], Some}
use Rattle.gql_resolvers.specs.Execute.{Member}
use Rattle.gql_response.specs.declared.execution_response.ExecutionResponse.{ExecutionResponse}

pub record IsData (response : ExecutionResponse) (members : List Member) : Type 0 where
  pub no_errors : response.errors ≡ []
  pub members_are : response.root ≡ Some members

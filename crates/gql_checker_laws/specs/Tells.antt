-- Which listed errors are true, and when a response is explained: sections 6.4.4 and 7.1 of GraphQL October 2021. What is read from
-- a text has names from no place, so errors are compared up to the places of names.
use Rattle.std.specs.Prelude.{◌≡◌, List, Contains}
use Rattle.std.specs.List.{AllByRecursion}
use Rattle.gql_response.specs.Held.{unplaced_error}
use Rattle.gql_response.specs.declared.execution_response.ExecutionResponse.{ExecutionResponse}
use Rattle.gql_response.specs.declared.graphql_error.GraphQLError.{GraphQLError}
use Rattle.gql_resolvers.specs.Explained.{IsTrueFault, IsExplainedBy}
use Rattle.gql_resolvers.specs.World.{World}

-- one of these errors shows the fault
abbrev pub IsListed : List GraphQLError → GraphQLError → Type 0
IsListed errors fault = (error : GraphQLError) × Contains errors error × (unplaced_error fault ≡ unplaced_error error)

module _ {X T G S : Type 0} (w : World X T G S) (root : T) (initial : X) (all : S) where
  -- the error shows a true fault
  abbrev pub Tells : GraphQLError → Type 0
  Tells error = (fault : GraphQLError) × IsTrueFault w root initial all fault × (unplaced_error fault ≡ unplaced_error error)

  -- each listed error is true, and the listed errors explain the data
  pub record AreExplained (response : ExecutionResponse) : Type 0 where
    pub faults : AllByRecursion Tells response.errors
    pub explained : IsExplainedBy w root initial all (IsListed response.errors) response.root

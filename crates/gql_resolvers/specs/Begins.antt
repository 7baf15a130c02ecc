-- Errors whose paths begin alike: section 7.1.2 of GraphQL October 2021.
use Rattle.std.specs.Prelude.{◌≡◌, List, ◌++◌}
use Rattle.gql_response.specs.declared.graphql_error.GraphQLError.{GraphQLError}
use Rattle.gql_resolvers.specs.Trail.{Segment}

-- the error's path begins with these steps
abbrev pub BeginsWith : List Segment → GraphQLError → Type 0
BeginsWith front error = (rest : List Segment) × (error.path ≡ front ++ rest)

-- Errors at distinct paths.
use Rattle.std.specs.Prelude.{◌≡◌, List, [], ◌∷◌}
use Rattle.std.specs.List.{AllByRecursion}
use Rattle.gql_response.specs.declared.graphql_error.GraphQLError.{GraphQLError}
use Rattle.gql_resolvers.specs.Trail.{shown}

-- a response shows different paths for them
abbrev pub IsApart : GraphQLError → GraphQLError → Type 0
IsApart e f = ¬ (shown e.path ≡ shown f.path)

abbrev pub DistinctPaths : List GraphQLError → Type 0
DistinctPaths [] = Unit {0}
DistinctPaths (e ∷ es) = AllByRecursion (IsApart e) es × DistinctPaths es

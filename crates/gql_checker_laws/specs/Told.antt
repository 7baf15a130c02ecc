-- Which claims that end at a place tell its fault.
use Rattle.std.specs.Prelude.{ℕ, Bool, false, ◌||◌, if◌then◌else◌, List, [], ◌∷◌, ◌++◌, option_to_list}
use Rattle.gql_source.specs.File.{Files}
use Rattle.gql_response.specs.ErrorAt.{place_in}
use Rattle.gql_response.specs.declared.graphql_error.GraphQLError.{GraphQLError}
use Rattle.gql_resolvers.specs.Resolved.{Fault}
use Rattle.gql_resolvers.specs.Trail.{Segment}
use Rattle.gql_checker_laws.specs.Claims.{Claim}
use Rattle.gql_checker_laws.specs.Shows.{says}

module _ (sources : Files) (fault : Fault) where
  abbrev pub is_said : GraphQLError → Bool
  is_said error = says error fault.message (option_to_list (place_in fault.span sources)) fault.marked

  abbrev pub ends_so : List Segment → GraphQLError → Bool
  ends_so [] error = is_said error
  ends_so (s ∷ rest) error = false

  abbrev pub is_told : Claim → Bool
  is_told c = ends_so c.rest c.error

  abbrev pub any_told : List Claim → Bool
  any_told [] = false
  any_told (c ∷ cs) = is_told c || any_told cs

  abbrev pub told_numbers : List Claim → List ℕ
  told_numbers [] = []
  told_numbers (c ∷ cs) = (if is_told c then c.number ∷ [] else []) ++ told_numbers cs

-- Why a request gets no response, as the error of a response.
use Rattle.std.specs.Prelude.{true, List, [], ◌∷◌, if◌then◌else◌, codes}
use Rattle.jb_tree.specs.declared.value.Value.TheVariants as json
use Rattle.gql_source.specs.File.{Files}
use Rattle.gql_response.specs.declared.graphql_error.GraphQLError.{GraphQLError}
use Rattle.gql_response.specs.ErrorAt.{error_at}
use Rattle.gql_response.specs.Response.{Member}
use Rattle.gql_response.specs.declared.request_error.RequestError.{RequestError}

-- what is said of an error that points to a fault of validation
abbrev pub suspected_bug : List Member
suspected_bug = (codes "APOLLO_SUSPECTED_VALIDATION_BUG", json.Bool true) ∷ []

abbrev pub request_error : RequestError → Files → GraphQLError
request_error refusal sources =
    record (error_at refusal.message refusal.location sources) { extensions = if refusal.is_suspected_validation_bug then suspected_bug else [] }

-- What a response has under each key, as it is taken out, and errors that are put into lists by key.
use Rattle.std.specs.Prelude.{◌≡◌, ℕ, List, [], ◌∷◌, ◌++◌, Option, Some, None, unwrap_or}
use Rattle.std.specs.Map.{lookup, set_value}
use Rattle.std.specs.Option.{option_map_or}
use Rattle.std.specs.Str.{bytes_eq}
use Rattle.jb_tree.specs.declared.value.Value.{Value}
use Rattle.jb_tree.specs.declared.value.Value.TheVariants as json
use Rattle.gql_ast_base.specs.Names.{Named}
use Rattle.gql_resolvers.specs.Execute.{Member}
use Rattle.gql_response.specs.declared.graphql_error.GraphQLError.{GraphQLError}
use Rattle.gql_gateway.specs.Joined.{errors_under}
use Rattle.gql_gateway.specs.bridge.Joined.{first_key}
use Rattle.gql_gateway.specs.declared.side.Side.{Side}

-- errors in lists, each under a key
abbrev pub Lists : Type 0
Lists = List (List ℕ × List GraphQLError)

-- the list under a key, which is empty where there is none
abbrev pub listed_at : Lists → List ℕ → List GraphQLError
listed_at under key = unwrap_or (lookup (bytes_eq key) under) []

-- under each key stand the errors whose paths begin with it, in order
abbrev pub AreUnder : Lists → List GraphQLError → Type 0
AreUnder under errors = (key : List ℕ) → listed_at under key ≡ errors_under key errors

-- ---- an error that is put into the list of its key

abbrev pub with_error : List ℕ → GraphQLError → Lists → Lists
with_error key error under =
    option_map_or (λ list. set_value (bytes_eq key) under (list ++ error ∷ [])) (lookup (bytes_eq key) under) (under ++ (key, error ∷ []) ∷ [])

abbrev pub filed_by : Option Named → GraphQLError → Lists → Lists
filed_by None error under = under
filed_by (Some name) error under = with_error name.text error under

abbrev pub with_filed : GraphQLError → Lists → Lists
with_filed error under = filed_by (first_key error.path) error under

-- ---- what is left where that of a key was taken out

abbrev pub without_list : List ℕ → Lists → Lists
without_list key under = option_map_or (λ list. set_value (bytes_eq key) under []) (lookup (bytes_eq key) under) under

abbrev pub without_value : List ℕ → List Member → List Member
without_value key members = option_map_or (λ v. set_value (bytes_eq key) members json.Null) (lookup (bytes_eq key) members) members

-- ---- sides of a join

-- nothing was taken out yet of these members and these errors
pub record IsSideOf (members : List Member) (errors : List GraphQLError) (side : Side) : Type 0 where
  pub members_are : side.members ≡ members
  pub errors_are : AreUnder side.errors errors

abbrev pub without_key : List ℕ → Side → Side
without_key key side = record { members = without_value key side.members; errors = without_list key side.errors }

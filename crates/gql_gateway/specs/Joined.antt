-- Two responses joined: one that answers for `__typename`, `__schema` and `__type` of a root, and one for its other fields (sections 4,
-- 6.3.2 and 7.1 of GraphQL October 2021).
use Rattle.std.specs.Prelude.{◌≡◌, ℕ, Bool, false, List, [], ◌∷◌, ◌++◌, map, Option, Some, None, Result, Ok, Err, if◌then◌else◌}
use Rattle.std.specs.List.{AllByRecursion, filter, flat_map}
use Rattle.std.specs.Map.{lookup}
use Rattle.std.specs.Str.{bytes_eq}
use Rattle.jb_text.specs.declared.refused.Refused.{Refused}
use Rattle.jb_text.specs.declared.refused.Refused.TheVariants.{Fault, Memory}
use Rattle.jb_tree.specs.declared.value.Value.{Value}
use Rattle.gql_ast_base.specs.Names.{Named}
use Rattle.gql_collect.specs.Groups.{applying, response_name}
use Rattle.gql_collect.specs.Setting.{Setting}
use Rattle.gql_document_types.specs.declared.selection.Selection.{Selection}
use Rattle.gql_exec.specs.Group.{Group, groups_from}
use Rattle.gql_exec.specs.Restricted.{is_meta}
use Rattle.gql_resolvers.specs.Execute.{Member}
use Rattle.gql_resolvers.specs.Trail.{Segment}
use Rattle.gql_response.specs.declared.execution_response.ExecutionResponse.{ExecutionResponse}
use Rattle.gql_response.specs.declared.graphql_error.GraphQLError.{GraphQLError}
use Rattle.gql_response.specs.declared.path.ResponseDataPathSegment.TheVariants.{Field, ListIndex}
use Rattle.gql_gateway.specs.declared.root_key.RootKey.{RootKey}

-- ---- the response keys of a root, each with whether it is answered here: whether its first field has one of the three names

abbrev pub root_key : Group → RootKey
root_key g = record { name = response_name g.first; here = is_meta g }

abbrev pub root_keys : List Group → List RootKey
root_keys groups = map root_key groups

-- those of selections on an object type, in the order in which they first occur
abbrev pub keys_on : Setting → List Selection → List RootKey
keys_on s selections = root_keys (groups_from (applying s (selections ∷ [])))

abbrev pub IsOther : List ℕ → RootKey → Type 0
IsOther k key = ¬ (k ≡ key.name.text)

-- no key is there twice
abbrev pub AreApart : List RootKey → Type 0
AreApart [] = Unit {0}
AreApart (key ∷ keys) = AllByRecursion (IsOther key.name.text) keys × AreApart keys

-- which of two answers for a key
abbrev pub of_key : {A : Type 0} → RootKey → A → A → A
of_key key here there = if key.here then here else there

-- ---- errors: for each key, in order, those of its response whose path begins with it

abbrev pub begins_with : List ℕ → List Segment → Bool
begins_with key [] = false
begins_with key (Field name ∷ path) = bytes_eq key name.text
begins_with key (ListIndex index ∷ path) = false

abbrev pub errors_under : List ℕ → List GraphQLError → List GraphQLError
errors_under key errors = filter (λ (error : GraphQLError). begins_with key error.path) errors

abbrev pub joined_errors : List RootKey → List GraphQLError → List GraphQLError → List GraphQLError
joined_errors keys here there = flat_map (λ (key : RootKey). errors_under key.name.text (of_key key here there)) keys

-- ---- members: for each key, in order, the value of its response; none where the other response lacks it

abbrev pub with_value : RootKey → Value → Result (List Member) Named → Result (List Member) Named
with_value key v (Ok members) = Ok ((key.name.text, v) ∷ members)
with_value key v (Err lacking) = Err lacking

abbrev pub with_member : RootKey → Option Value → Result (List Member) Named → Result (List Member) Named
with_member key (Some v) rest = with_value key v rest
with_member key None rest = if key.here then rest else Err key.name

abbrev pub joined_members : List RootKey → List Member → List Member → Result (List Member) Named
joined_members [] here there = Ok []
joined_members (key ∷ keys) here there = with_member key (lookup (bytes_eq key.name.text) (of_key key here there)) (joined_members keys here there)

-- ---- responses, or the first key that the other response lacks

abbrev pub with_errors : List GraphQLError → Result (List Member) Named → Result ExecutionResponse Named
with_errors errors (Ok members) = Ok (record { errors = errors; root = Some members })
with_errors errors (Err lacking) = Err lacking

abbrev pub joined_roots : List RootKey → List GraphQLError → List GraphQLError → Option (List Member) → Option (List Member)
    → Result ExecutionResponse Named
joined_roots keys here there (Some members) (Some others) = with_errors (joined_errors keys here there) (joined_members keys members others)
joined_roots keys here there None others = Ok (record { errors = here ++ there; root = None })
joined_roots keys here there (Some members) None = Ok (record { errors = here ++ there; root = None })

abbrev pub joined : List RootKey → ExecutionResponse → ExecutionResponse → Result ExecutionResponse Named
joined keys here there = joined_roots keys here.errors there.errors here.root there.root

-- a response with no members and no errors
abbrev pub no_members : ExecutionResponse
no_members = record { errors = []; root = Some [] }

-- ---- what is answered: that, or the key that is lacking; want of memory is free

abbrev pub Gives : Result ExecutionResponse Named → Result ExecutionResponse (Refused Named) → Type 0
Gives wanted (Ok response) = wanted ≡ Ok response
Gives wanted (Err (Fault lacking)) = wanted ≡ Err lacking
Gives wanted (Err Memory) = Unit {0}

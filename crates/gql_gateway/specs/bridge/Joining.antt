-- Two responses that are joined key by key.
use Rattle.std.specs.Prelude.{◌≡◌, ℕ, Bool, List, [], ◌∷◌, ◌++◌, Option, Some, None, Result, Ok, Err, ◌⊎◌, if◌then◌else◌}
use Rattle.std.specs.List.{AllByRecursion}
use Rattle.std.specs.Map.{lookup}
use Rattle.std.specs.Str.{bytes_eq}
use Rattle.jb_text.specs.declared.refused.Refused.{Refused}
use Rattle.jb_text.specs.declared.refused.Refused.TheVariants.{Fault, Memory}
use Rattle.jb_tree.specs.declared.value.Value.{Value}
use Rattle.gql_ast_base.specs.Names.{Named}
use Rattle.gql_resolvers.specs.Execute.{Member}
use Rattle.gql_response.specs.declared.execution_response.ExecutionResponse.{ExecutionResponse}
use Rattle.gql_response.specs.declared.graphql_error.GraphQLError.{GraphQLError}
use Rattle.gql_gateway.specs.Joined.{of_key}
use Rattle.gql_gateway.specs.bridge.Sides.{listed_at, without_key}
use Rattle.gql_gateway.specs.declared.joining.Joined.{Joined}
use Rattle.gql_gateway.specs.declared.root_key.RootKey.{RootKey}
use Rattle.gql_gateway.specs.declared.side.Side.{Side}

-- members have none of the keys
abbrev pub IsAbsent : List Member → RootKey → Type 0
IsAbsent members key = lookup (bytes_eq key.name.text) members ≡ None

abbrev pub AreAbsent : List RootKey → List Member → Type 0
AreAbsent keys members = AllByRecursion (IsAbsent members) keys

-- the members with that of a key, whose value this is; or that the key is lacking
abbrev pub added_member : RootKey → Option Value → List Member → Result (List Member) Named
added_member key (Some v) members = Ok (members ++ (key.name.text, v) ∷ [])
added_member key None members = if key.here then Ok members else Err key.name

abbrev pub GivesMembers : Result (List Member) Named → List Member → Result (Unit {0}) (Refused Named) → Type 0
GivesMembers wanted made (Ok _) = wanted ≡ Ok made
GivesMembers wanted made (Err (Fault lacking)) = wanted ≡ Err lacking
GivesMembers wanted made (Err Memory) = Unit {0}

-- what is joined has the member and the errors that a side has under a key, which are taken out of it; or the key is lacking
abbrev pub IsAdded : RootKey → (side side' : Side) → (out out' : Joined) → Result (Unit {0}) (Refused Named) → Type 0
IsAdded key side side' out out' (Ok _) =
    (added_member key (lookup (bytes_eq key.name.text) side.members) out.members ≡ Ok out'.members)
    × (out'.errors ≡ out.errors ++ listed_at side.errors key.name.text)
    × (side' ≡ without_key key.name.text side)
IsAdded key side side' out out' (Err (Fault lacking)) = added_member key (lookup (bytes_eq key.name.text) side.members) out.members ≡ Err lacking
IsAdded key side side' out out' (Err Memory) = Unit {0}

-- of two sides, that of the key
abbrev pub IsAddedOf : RootKey → (here here' there there' : Side) → (out out' : Joined) → Result (Unit {0}) (Refused Named) → Type 0
IsAddedOf key here here' there there' out out' (Ok _) =
    (added_member key (lookup (bytes_eq key.name.text) (of_key key here there).members) out.members ≡ Ok out'.members)
    × (out'.errors ≡ out.errors ++ listed_at (of_key key here there).errors key.name.text)
    × ((here' ≡ here) ⊎ (here' ≡ without_key key.name.text here))
    × ((there' ≡ there) ⊎ (there' ≡ without_key key.name.text there))
IsAddedOf key here here' there there' out out' (Err (Fault lacking)) =
    added_member key (lookup (bytes_eq key.name.text) (of_key key here there).members) out.members ≡ Err lacking
IsAddedOf key here here' there there' out out' (Err Memory) = Unit {0}

-- no data, and all errors of both
abbrev pub without_data : List GraphQLError → List GraphQLError → ExecutionResponse
without_data errors others = record { errors = errors ++ others; root = None }

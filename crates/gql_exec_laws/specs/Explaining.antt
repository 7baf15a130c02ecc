-- The response to a list in which items fail, part by part.
use Rattle.std.specs.Prelude.{ℕ, List, [], ◌∷◌, Option, Some, codes, pos}
use Rattle.jb_tree.specs.declared.value.Value.TheVariants as json
use Rattle.gql_response.specs.declared.execution_response.ExecutionResponse.{ExecutionResponse}
use Rattle.gql_response.specs.declared.graphql_error.GraphQLError.{GraphQLError}
use Rattle.gql_response.specs.declared.path.ResponseDataPathSegment.TheVariants.{Field, ListIndex}
use Rattle.gql_resolvers.specs.Execute.{Member}
use Rattle.gql_exec_laws.specs.Parts.{name_at}

-- the failure of the item with this index
abbrev pub failed_item : ℕ → List ℕ → GraphQLError
failed_item index message = record {
  message = message;
  locations = record { line = 1; column = 3 } ∷ [];
  path = Field (name_at 2 (codes "f")) ∷ ListIndex index ∷ [];
  extensions = [];
}

-- {"f":[null,42,null]}
abbrev pub nulls : Option (List Member)
nulls = Some ((codes "f", json.Array (json.Null ∷ json.Number (pos 42) ∷ json.Null ∷ [])) ∷ [])

abbrev pub with_nulls : ExecutionResponse
with_nulls =
    record { errors = failed_item 0 (codes "resolver error: a") ∷ failed_item 2 (codes "resolver error: b") ∷ []; root = nulls }

-- A null at the root.
use Rattle.std.proofs.Common.{◌≡◌, [], ◌∷◌, None, refl, ◌∙◌, codes}
use Rattle.gql_collect.specs.Flat.{flat_sets}
use Rattle.gql_resolvers.specs.Execute.{Made, Member, execute}
use Rattle.gql_exec.specs.Group.{Group}
use Rattle.gql_exec.specs.RequestWorld.{setting_on}
use Rattle.gql_response.specs.declared.path.ResponseDataPathSegment.TheVariants.{Field}
use Rattle.gql_response.specs.declared.graphql_error.GraphQLError.{GraphQLError}
use Rattle.gql_exec_laws.specs.Example.{IsAnswered, root, request}
use Rattle.gql_exec_laws.specs.Examples.{root_null, strict_query, strict, b}
use Rattle.gql_exec_laws.specs.Parts.{field_at, name_at}
use Rattle.gql_exec_laws.proofs.Computed.{computed, world, executed, answered}
use Rattle.gql_exec_laws.proofs.Opened.{selected, nested, fitting, printing}

fields : flat_sets (setting_on (request root_null) strict_query) (root_null.selections ∷ []) ≡ field_at 2 b [] ∷ field_at 4 strict [] ∷ []
unfolding computed
fields = simp selected

abbrev group_b : Group
group_b = record { first = field_at 2 b []; pieces = [] ∷ [] }

abbrev group_a : Group
group_a = record { first = field_at 4 strict []; pieces = [] ∷ [] }

abbrev error : GraphQLError
error = record {
  message = codes "non-null type Int! resolved to null";
  locations = record { line = 1; column = 5 } ∷ [];
  path = Field (name_at 4 (codes "a")) ∷ [];
  extensions = [];
}

abbrev made : Made Member
made = (None, error ∷ [])

same : execute (world root_null) 1 strict_query root [] (root_null.selections ∷ []) ≡ made
unfolding computed
same =
    executed root_null 0 strict_query root [] (root_null.selections ∷ []) (field_at 2 b [] ∷ field_at 4 strict [] ∷ []) (group_b ∷ group_a ∷ [])
    fields refl ∙ simp fitting

pub known : IsAnswered root_null
unfolding computed
known = answered root_null 1 made (simp nested) same (simp printing)

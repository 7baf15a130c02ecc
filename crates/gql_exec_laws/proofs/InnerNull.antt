-- A null inside an object, alone and behind another error.
use Rattle.std.proofs.Common.{◌≡◌, ℕ, List, [], ◌∷◌, Some, refl, ◌∙◌, codes}
use Rattle.jb_tree.specs.declared.value.Value.TheVariants as json
use Rattle.gql_document_types.specs.declared.selection.Selection.{Selection}
use Rattle.gql_collect.specs.Flat.{flat_sets}
use Rattle.gql_resolvers.specs.Execute.{Made, Member, Below, execute, groups_made}
use Rattle.gql_resolvers.specs.Resolved.{Meaning, fails_with}
use Rattle.gql_resolvers.specs.Trail.{Trail}
use Rattle.gql_exec.specs.Group.{Group}
use Rattle.gql_exec.specs.RequestWorld.{setting_on}
use Rattle.gql_response.specs.declared.path.ResponseDataPathSegment.TheVariants.{Field}
use Rattle.gql_response.specs.declared.graphql_error.GraphQLError.{GraphQLError}
use Rattle.gql_exec_laws.specs.Example.{IsAnswered, Thing, root, inner, request}
use Rattle.gql_exec_laws.specs.Examples.{inner_null, null_alone, null_behind, number, object_query, inner_type, a, x, y}
use Rattle.gql_exec_laws.specs.Parts.{field_at, select, name_at}
use Rattle.gql_exec_laws.proofs.Computed.{computed, world, executed, answered}
use Rattle.gql_exec_laws.proofs.Opened.{selected, nested, fitting, printing}

abbrev within : List Selection
within = select 6 y [] ∷ select 8 x [] ∷ []

abbrev group_of : List (List Selection) → Group
group_of sets = record { first = field_at 2 a within; pieces = sets }

abbrev group_a : Group
group_a = group_of (within ∷ [])

abbrev group_y : Group
group_y = record { first = field_at 6 y []; pieces = [] ∷ [] }

abbrev group_x : Group
group_x = record { first = field_at 8 x []; pieces = [] ∷ [] }

module _ (of_y : Meaning Thing) (errors : List ℕ) where
  fields : flat_sets (setting_on (request (inner_null of_y errors)) object_query) ((inner_null of_y errors).selections ∷ []) ≡ field_at 2 a within ∷ []
  unfolding computed
  fields = simp selected

  fields_within : flat_sets (setting_on (request (inner_null of_y errors)) inner_type) (within ∷ []) ≡ field_at 6 y [] ∷ field_at 8 x [] ∷ []
  unfolding computed
  fields_within = simp selected

  outside : execute (world (inner_null of_y errors)) 2 object_query root [] ((inner_null of_y errors).selections ∷ [])
      ≡ groups_made (world (inner_null of_y errors)) (execute (world (inner_null of_y errors)) 1) object_query root [] (group_a ∷ [])
  unfolding computed
  outside =
      executed (inner_null of_y errors) 1 object_query root [] ((inner_null of_y errors).selections ∷ [])
      (field_at 2 a within ∷ []) (group_a ∷ []) fields refl

  inside : (outer : Trail) → execute (world (inner_null of_y errors)) 1 inner_type inner outer (within ∷ [])
      ≡ groups_made (world (inner_null of_y errors)) (execute (world (inner_null of_y errors)) 0) inner_type inner outer (group_y ∷ group_x ∷ [])
  unfolding computed
  inside outer =
      executed (inner_null of_y errors) 0 inner_type inner outer (within ∷ []) (field_at 6 y [] ∷ field_at 8 x [] ∷ []) (group_y ∷ group_x ∷ [])
      fields_within refl

abbrev error_x : GraphQLError
error_x = record {
  message = codes "non-null type Int! resolved to null";
  locations = record { line = 1; column = 9 } ∷ [];
  path = Field (name_at 2 (codes "a")) ∷ Field (name_at 8 (codes "x")) ∷ [];
  extensions = [];
}

abbrev error_y : GraphQLError
error_y = record {
  message = codes "resolver error: e";
  locations = record { line = 1; column = 7 } ∷ [];
  path = Field (name_at 2 (codes "a")) ∷ Field (name_at 6 (codes "y")) ∷ [];
  extensions = [];
}

abbrev made_with : List GraphQLError → Made Member
made_with errors = (Some ((codes "a", json.Null) ∷ []), errors)

alone : (run : Below (world null_alone)) (sets : List (List Selection))
    → ((outer : Trail) → run inner_type inner outer sets
    ≡ groups_made (world null_alone) (execute (world null_alone) 0) inner_type inner outer (group_y ∷ group_x ∷ []))
    → groups_made (world null_alone) run object_query root [] (group_of sets ∷ []) ≡ made_with (error_x ∷ [])
unfolding computed
alone run sets within_run = simp (fitting, within_run)

same_alone : execute (world null_alone) 2 object_query root [] (null_alone.selections ∷ []) ≡ made_with (error_x ∷ [])
unfolding computed
same_alone = outside (number 1) [] ∙ alone (execute (world null_alone) 1) (within ∷ []) (inside (number 1) [])

pub known_alone : IsAnswered null_alone
unfolding computed
known_alone = answered null_alone 2 (made_with (error_x ∷ [])) (simp nested) same_alone (simp printing)

abbrev before : List ℕ
before = codes "{\"message\":\"resolver error: e\",\"locations\":[{\"line\":1,\"column\":7}],\"path\":[\"a\",\"y\"]},"

behind : (run : Below (world null_behind)) (sets : List (List Selection))
    → ((outer : Trail) → run inner_type inner outer sets
    ≡ groups_made (world null_behind) (execute (world null_behind) 0) inner_type inner outer (group_y ∷ group_x ∷ []))
    → groups_made (world null_behind) run object_query root [] (group_of sets ∷ []) ≡ made_with (error_y ∷ error_x ∷ [])
unfolding computed
behind run sets within_run = simp (fitting, within_run)

same_behind : execute (world null_behind) 2 object_query root [] (null_behind.selections ∷ []) ≡ made_with (error_y ∷ error_x ∷ [])
unfolding computed
same_behind = outside (fails_with (codes "e")) before ∙ behind (execute (world null_behind) 1) (within ∷ []) (inside (fails_with (codes "e")) before)

pub known_behind : IsAnswered null_behind
unfolding computed
known_behind = answered null_behind 2 (made_with (error_y ∷ error_x ∷ [])) (simp nested) same_behind (simp printing)

-- What only private clauses and proofs cite, beside `Trails`.
use Rattle.std.specs.Prelude.{◌≡◌, List, [], ◌∷◌, ◌++◌, Option}
use Rattle.std.specs.Option.{option_copied}
use Rattle.jb_tree.specs.declared.value.Value.{Value}
use Rattle.gql_source.specs.File.{Files}
use Rattle.gql_ast_base.specs.declared.type_ref.TypeRef.{TypeRef}
use Rattle.gql_response.specs.RequestFault.{request_error}
use Rattle.gql_response.specs.declared.request_error.RequestError.{RequestError}
use Rattle.gql_response.specs.declared.graphql_error.GraphQLError.{GraphQLError}
use Rattle.gql_response.specs.declared.path.ResponseDataPathSegment.TheVariants.{Field, ListIndex}
use Rattle.gql_schema_types.specs.declared.schema.Schema.{Schema}
use Rattle.gql_schema_types.specs.Schemas.{type_named}
use Rattle.gql_resolvers.specs.Execute.{null_or_pass}
use Rattle.gql_resolvers.specs.Spot.{Spot}
use Rattle.gql_resolvers.specs.Trail.{Segment, Trail, path_of}
use Rattle.gql_ast_base.specs.TypeParts.{is_non_null}
use Rattle.gql_exec.specs.Group.{Group}
use Rattle.gql_exec.specs.declared.path.Path.{Path, fold-Path}
use Rattle.gql_exec.specs.declared.path.Path.TheOpen.{Path-F, Root, Below}
use Rattle.gql_exec.specs.declared.path.Step.{Step}
use Rattle.gql_exec.specs.declared.path.Step.TheVariants.{Key, Item}
use Rattle.gql_exec.specs.declared.place.Place.{Place}
use Rattle.gql_exec.specs.Trails.{group_of}

abbrev pub segment_of : Step → Segment
segment_of (Key name) = Field name.now
segment_of (Item index) = ListIndex index

-- a way from the root as a place with those around it
abbrev pub trail_step : Path-F Trail → Trail
trail_step Root = []
trail_step (Below parent step ty) = (segment_of step, ty.now) ∷ parent.now

abbrev pub trail_of : Path → Trail
trail_of = fold-Path Trail trail_step

abbrev pub spot_of : Place → Spot Group
spot_of place =
    record { around = trail_of place.around.now; step = segment_of place.step; type = place.ty.now; group = group_of place.group.now }

-- a place comes with the type of the schema that its type names
abbrev pub IsNamed : Schema → Place → Type 0
IsNamed schema place = option_copied place.named ≡ type_named schema place.ty.now

-- the steps from the root to a place
abbrev pub place_path : Place → List Segment
place_path place = path_of (trail_of place.around.now) ++ segment_of place.step ∷ []

-- the error of a fault, at these steps
abbrev pub listed_at : Files → List Segment → RequestError → GraphQLError
listed_at sources path fault = record (request_error fault sources) { path = path }

-- a null at a place of this type
abbrev pub null_at : TypeRef → Option (List Value)
null_at ty = null_or_pass (is_non_null ty)

-- The depths of queries of the schema, computed.
use Rattle.std.proofs.Common.{◌≡◌, [], ◌∷◌, None, Some, ap, ◌∙◌}
use Rattle.gql_collect.proofs.Views.{view-field, view-spread, view-node}
use Rattle.gql_collect.specs.DepthPlace.{depth_place}
use Rattle.gql_collect.specs.Nested.{Fragments, nothing, field_then, spread_then}
use Rattle.gql_collect.specs.View.{fragments_nested, nested}
use Rattle.gql_exec_laws.specs.DeepFields.{again, once, place_at, three_deep, two_deep, two_deep_again}
use Rattle.gql_exec_laws.specs.Depths.{depth_in}

pub depth-two : depth_in two_deep once ≡ 2
depth-two = simp (view-field, view-spread, view-node)

pub depth-three : depth_in three_deep once ≡ 3
depth-three = simp (view-field, view-spread, view-node)

pub depth-again : depth_in two_deep_again again ≡ 3
depth-again = simp (view-field, view-spread, view-node)

pub place-none : depth_place (fragments_nested two_deep) (nested two_deep once) ≡ None
place-none = simp (view-field, view-spread, view-node)

pub place-field : depth_place (fragments_nested three_deep) (nested three_deep once) ≡ Some (place_at 80 10)
place-field = simp (view-field, view-spread, view-node)

abbrev again_table : Fragments
again_table =
    field_then 1 (place_at 80 6)
    (field_then 0 (place_at 89 4) (field_then 1 (place_at 96 6) (field_then 0 (place_at 105 4) nothing nothing) nothing) nothing) nothing ∷ []

table-is : fragments_nested two_deep_again ≡ again_table
table-is = simp (view-field, view-node)

again-is : nested two_deep_again again
    ≡ field_then 0 (place_at 2 8)
    (field_then 0 (place_at 13 5)
    (spread_then 0 (place_at 21 4)
    (field_then 1 (place_at 26 6) (field_then 0 (place_at 35 4) (spread_then 0 (place_at 42 4) nothing) nothing) nothing))
    nothing)
    nothing
again-is = simp (view-field, view-spread, view-node)

pub place-spread : depth_place (fragments_nested two_deep_again) (nested two_deep_again again) ≡ Some (place_at 42 4)
place-spread = ap (λ table. depth_place table (nested two_deep_again again)) table-is ∙ ap (depth_place again_table) again-is

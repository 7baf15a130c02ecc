-- Where too great a depth is told.
use Rattle.std.specs.Prelude.{ℕ, zero, suc, ◌+◌, Bool, true, false, leb, Option, Some, None}
use Rattle.std.specs.Prelude.{List, [], ◌∷◌, ◌++◌, length, set, slice_get, replicate, find}
use Rattle.std.specs.Option.{option_map}
use Rattle.gql_collect.specs.Expanded.{fragment_depth, most}
use Rattle.gql_collect.specs.Nested.{Nested, nothing, field_then, spread_then, inline_then, Fragments, Place, body_of}

-- a place, and how many counted fields its chain has there
abbrev pub Stop : Type 0
Stop = Place × ℕ

-- the stops on the way through selections, depth first, and which fragments were entered
abbrev pub Way : Type 0
Way = List Stop × List Bool

abbrev pub after : Way → (List Bool → Way) → Way
after way next = (way.0 ++ (next way.1).0, (next way.1).1)

abbrev pub at_place : Place → ℕ → Way → Way
at_place place number way = ((place, number) ∷ way.0, way.1)

-- a fragment is entered at its first spread; a later spread is a stop, with the chain so far and the depth of the fragment
abbrev pub at_spread : (ℕ → ℕ) → (ℕ → List Bool → Way) → ℕ → ℕ → Place → List Bool → Option Bool → Way
at_spread depth_of enter chain f place entered None = ([], entered)
at_spread depth_of enter chain f place entered (Some true) = ((place, chain + depth_of f) ∷ [], entered)
at_spread depth_of enter chain f place entered (Some false) = enter f (set entered f true)

abbrev pub way_with : (ℕ → ℕ) → (ℕ → ℕ → List Bool → Way) → ℕ → Nested → List Bool → Way
way_with depth_of enter chain nothing entered = ([], entered)
way_with depth_of enter chain (field_then weight place within rest) entered =
    after (at_place place (chain + weight) (way_with depth_of enter (chain + weight) within entered)) (λ e. way_with depth_of enter chain rest e)
way_with depth_of enter chain (spread_then f place rest) entered =
    after (at_spread depth_of (enter chain) chain f place entered (slice_get entered f)) (λ e. way_with depth_of enter chain rest e)
way_with depth_of enter chain (inline_then body rest) entered =
    after (way_with depth_of enter chain body entered) (λ e. way_with depth_of enter chain rest e)

abbrev pub enter_at : Fragments → (ℕ → ℕ) → ℕ → ℕ → ℕ → List Bool → Way
enter_at fragments depth_of zero chain f entered = ([], entered)
enter_at fragments depth_of (suc n) chain f entered = way_with depth_of (enter_at fragments depth_of n) chain (body_of fragments f) entered

-- the way through selections, where no fragment was entered yet
abbrev pub way_through : Fragments → (ℕ → ℕ) → Nested → Way
way_through fragments depth_of selections =
    way_with depth_of (enter_at fragments depth_of (most fragments)) 0 selections (replicate (length fragments) false)

abbrev pub is_deep : Stop → Bool
is_deep stop = leb 3 stop.1

-- the first stop on the way with three or more
abbrev pub depth_place : Fragments → Nested → Option Place
depth_place fragments selections =
    option_map (λ (stop : Stop). stop.0) (find is_deep (way_through fragments (fragment_depth fragments (most fragments)) selections).0)

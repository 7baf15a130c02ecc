-- The way through fragments that are entered.
use Rattle.std.proofs.Common.{arith, ◌≡◌, ℕ, zero, suc, ◌+◌, ◌<◌, ◌++◌, Bool, true, false, List, set, slice_get, Option, Some, None, refl, ap, ◌∙◌}
use Rattle.gql_collect.specs.DepthPlace.{Way, after, at_place, at_spread, way_with, enter_at}
use Rattle.gql_collect.specs.Expanded.{most}
use Rattle.gql_collect.specs.Nested.{Nested, nothing, field_then, spread_then, inline_then, Fragments, Place, body_of}
use Rattle.gql_collect.specs.bridge.Nested.{IsBelow, AreRanked}

after-same : (a b : Way) (next other : List Bool → Way) → a ≡ b → ((e : List Bool) → next e ≡ other e) → after a next ≡ after b other
after-same a b next other is same = ap (λ w. after w next) is ∙ ap (λ (w : Way). (b.0 ++ w.0, w.1)) (same b.1)

module _ (rank : ℕ → ℕ) (D : ℕ → ℕ) (a b : ℕ → ℕ → List Bool → Way) where
  -- below a rank they enter alike
  abbrev Alike : ℕ → Type 0
  Alike r = (c g : ℕ) (e : List Bool) → rank g < r → a c g e ≡ b c g e

  spread-same : (r c f : ℕ) (place : Place) (e : List Bool) (o : Option Bool) → Alike r → rank f < r → at_spread D (a c) c f place e o ≡ at_spread D (b c) c f place e o
  spread-same r c f place e None alike less = refl
  spread-same r c f place e (Some true) alike less = refl
  spread-same r c f place e (Some false) alike less = alike c f (set e f true) less

  way-same : (r c : ℕ) (s : Nested) (e : List Bool) → IsBelow rank r s → Alike r → way_with D a c s e ≡ way_with D b c s e
  way-same r c nothing e below alike = refl
  way-same r c (field_then weight place within rest) e below alike =
      after-same (at_place place (c + weight) (way_with D a (c + weight) within e)) (at_place place (c + weight) (way_with D b (c + weight) within e))
      (λ e. way_with D a c rest e) (λ e. way_with D b c rest e)
      (ap (at_place place (c + weight)) (way-same r (c + weight) within e below.0 alike)) (λ e. way-same r c rest e below.1 alike)
  way-same r c (spread_then f place rest) e below alike =
      after-same (at_spread D (a c) c f place e (slice_get e f)) (at_spread D (b c) c f place e (slice_get e f))
      (λ e. way_with D a c rest e) (λ e. way_with D b c rest e)
      (spread-same r c f place e (slice_get e f) alike below.0) (λ e. way-same r c rest e below.1 alike)
  way-same r c (inline_then body rest) e below alike =
      after-same (way_with D a c body e) (way_with D b c body e) (λ e. way_with D a c rest e) (λ e. way_with D b c rest e)
      (way-same r c body e below.0 alike) (λ e. way-same r c rest e below.1 alike)

module _ (fragments : Fragments) (rank : ℕ → ℕ) (ranked : AreRanked fragments rank) (D : ℕ → ℕ) where
  enter-more : (n c f : ℕ) (e : List Bool) → rank f < n → enter_at fragments D n c f e ≡ enter_at fragments D (suc n) c f e
  enter-more zero c f e lt = absurd (omega (arith, lt))
  enter-more (suc n) c f e lt =
      way-same rank D (enter_at fragments D n) (enter_at fragments D (suc n)) (rank f) c (body_of fragments f) e (ranked.bodies f)
      (λ c g e less. enter-more n c g e (omega (arith, less, lt)))

  pub enter-fixed : (c f : ℕ) (e : List Bool)
      → enter_at fragments D (most fragments) c f e ≡ way_with D (enter_at fragments D (most fragments)) c (body_of fragments f) e
  enter-fixed c f e = enter-more (most fragments) c f e (omega (arith, ranked.bounded f))

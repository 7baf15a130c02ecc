-- How deep selections go: so deep that an execution cuts nothing off (section 6.3 of GraphQL October 2021).
use Rattle.std.specs.Prelude.{◌≡◌, ℕ, zero, suc, List, [], ◌∷◌}
use Rattle.gql_resolvers.specs.World.{World}

module _ {X T G S : Type 0} (w : World X T G S) where
  abbrev pub AllGroups : (G → Type 0) → List G → Type 0
  AllGroups P [] = Unit {0}
  AllGroups P (g ∷ gs) = P g × AllGroups P gs

  -- the selection has no group below that many selections, whatever the types of objects are
  abbrev pub Suffices : ℕ → T → S → Type 0
  Suffices zero U s = w.groups U s ≡ []
  Suffices (suc d) U s = AllGroups (λ g. (W : T) → Suffices d W (w.below g)) (w.groups U s)

-- The places of a response that are reached: section 6.4 of GraphQL October 2021.
use Rattle.std.specs.Prelude.{◌≡◌, ℕ, ◌+◌, List, [], ◌∷◌, Option, Some, None, ◌⊎◌}
use Rattle.gql_resolvers.specs.Resolved.{Meaning, Meanings, gives_leaf, gives_object, gives_list, gives_skip, fails_with, no_answer, answer_then}
use Rattle.gql_resolvers.specs.Resolved.{Outcome, answered}
use Rattle.gql_resolvers.specs.World.{World}
use Rattle.gql_resolvers.specs.Trail.{Trail}
use Rattle.gql_resolvers.specs.Spot.{Spot, trail, item_spot, field_spot}

-- where a place is, and what comes of it
abbrev pub Place : Type 0 → Type 0 → Type 0
Place G X = Spot G × Outcome X

-- a place with this outcome is one of these
abbrev pub IsAmong : {X G : Type 0} → Spot G → Outcome X → List (Place G X) → Type 0
IsAmong spot outcome [] = ⊥
IsAmong spot outcome (c ∷ cs) = ((spot ≡ c.0) × (outcome ≡ c.1)) ⊎ IsAmong spot outcome cs

-- the places of a list's answers, from an index on
abbrev pub items_of : {X G : Type 0} → Spot G → ℕ → Meanings X → List (Place G X)
items_of list i no_answer = []
items_of list i (answer_then m ms) = (item_spot list i, answered m) ∷ items_of list (i + 1) ms

module _ {X T G S : Type 0} (w : World X T G S) where
  -- the places of groups on an object of this type
  abbrev pub fields_of : T → X → Trail → List G → List (Place G X)
  fields_of U x outer [] = []
  fields_of U x outer (g ∷ gs) = (field_spot w U outer g, w.asks U x g) ∷ fields_of U x outer gs

  abbrev pub fields_if : Option T → X → Spot G → List (Place G X)
  fields_if None x spot = []
  fields_if (Some U) x spot = fields_of U x (trail spot) (w.groups U (w.below spot.group))

  -- the places directly inside one that gives this: a list's items, and an object's groups on its own type
  abbrev pub inside : Spot G → Meaning X → List (Place G X)
  inside spot (gives_list ms) = items_of spot 0 ms
  inside spot (gives_object x) = fields_if (w.type_of x) x spot
  inside spot (gives_leaf v) = []
  inside spot gives_skip = []
  inside spot (fails_with text) = []

  -- the places that the execution of a selection on an object reaches: its groups, and what is inside a place that gives
  -- what fits it
  pub data Reaches (U : T) (x : X) (s : S) : Spot G → Outcome X → Type 0 where
    at_root : {spot : Spot G} {outcome : Outcome X} → IsAmong spot outcome (fields_of U x [] (w.groups U s)) → Reaches U x s spot outcome
    at_inside : {spot : Spot G} {outcome : Outcome X} (outer : Spot G) (m : Meaning X) → Reaches U x s outer (answered m)
        → w.misfit outer.type m ≡ None → IsAmong spot outcome (inside outer m) → Reaches U x s spot outcome

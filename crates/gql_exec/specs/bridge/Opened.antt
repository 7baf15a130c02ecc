-- What only private clauses and proofs cite, beside `Opened`.
use Rattle.std.specs.Prelude.{◌≡◌, List, [], ◌∷◌, Some}
use Rattle.gql_resolvers.specs.Resolved.{Meaning}
use Rattle.gql_resolvers.specs.Spot.{Spot}
use Rattle.gql_resolvers.specs.World.{World, key_of}
use Rattle.gql_exec.specs.Opened.{Way, AnyGroup, Gives, Brings, Opens}

module _ {X T G S : Type 0} (w : World X T G S) where
  -- the object is of the type of a turn, and the way on is opened from it
  abbrev pub Turns : S → T × Way T → X → Type 0
  Turns s turn y = (w.type_of y ≡ Some turn.0) × Opens {X = X} {T = T} {G = G} {S = S} w turn.1 turn.0 y s

  -- the same as `Opens` by these groups
  abbrev pub OpensBy : List G → T → X → Way T → Type 0
  OpensBy gs U x [] = Unit {0}
  OpensBy gs U x (step ∷ way) =
      AnyGroup (λ g. (key_of w g ≡ step.0) × Brings {X = X} {T = T} {G = G} {S = S} w (Turns (w.below g) (step.1, way)) (w.type_at U g) (w.asks U x g)) gs

  -- what is given at a place makes the turn
  abbrev pub MakesTurn : Spot G → Meaning X → T × Way T → Type 0
  MakesTurn spot m turn = Gives {X = X} {T = T} {G = G} {S = S} w (Turns (w.below spot.group) turn) spot.type m

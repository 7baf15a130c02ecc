-- Where no resolver leaves anything out, nothing that is reached is to be left out.
use Rattle.std.proofs.Common.{ℕ, ◌+◌, List, [], ◌∷◌, Option, Some, None, sym, subst, inl, inr}
use Rattle.gql_resolvers.specs.Resolved.{Meaning, Meanings, gives_leaf, gives_object, gives_list, gives_skip, fails_with, no_answer, answer_then}
use Rattle.gql_resolvers.specs.Resolved.{Outcome, answered}
use Rattle.gql_resolvers.specs.World.{World}
use Rattle.gql_resolvers.specs.Trail.{Trail}
use Rattle.gql_resolvers.specs.Spot.{Spot, trail}
use Rattle.gql_resolvers.specs.Reached.{IsAmong, items_of, fields_of, fields_if, inside, Reaches, at_root, at_inside}
use Rattle.gql_resolvers.specs.Skips.{SkipsNothing, SkipNothing, IsSkipless}

items_skipless : {X G : Type 0} (list : Spot G) (i : ℕ) (ms : Meanings X) (s : Spot G) (a : Outcome X) → SkipNothing ms → IsAmong s a (items_of list i ms) → IsSkipless a
items_skipless list i no_answer s a none h = absurd h
items_skipless list i (answer_then m ms) s a none (inl h) = subst IsSkipless (sym h.1) none.0
items_skipless list i (answer_then m ms) s a none (inr h) = items_skipless list (i + 1) ms s a none.1 h

module _ {X T G S : Type 0} (w : World X T G S) (skipless : (U : T) (x : X) (g : G) → IsSkipless (w.asks U x g)) (root : T) (initial : X) (all : S) where
  fields_skipless : (U : T) (x : X) (outer : Trail) (gs : List G) (s : Spot G) (a : Outcome X) → IsAmong s a (fields_of w U x outer gs) → IsSkipless a
  fields_skipless U x outer [] s a h = absurd h
  fields_skipless U x outer (g ∷ gs) s a (inl h) = subst IsSkipless (sym h.1) (skipless U x g)
  fields_skipless U x outer (g ∷ gs) s a (inr h) = fields_skipless U x outer gs s a h

  if_skipless : (type : Option T) (x : X) (spot : Spot G) (s : Spot G) (a : Outcome X) → IsAmong s a (fields_if w type x spot) → IsSkipless a
  if_skipless None x spot s a h = absurd h
  if_skipless (Some U) x spot s a h = fields_skipless U x (trail spot) _ s a h

  inside_skipless : (outer : Spot G) (m : Meaning X) (s : Spot G) (a : Outcome X) → SkipsNothing m → IsAmong s a (inside w outer m) → IsSkipless a
  inside_skipless outer (gives_leaf v) s a none h = absurd h
  inside_skipless outer (gives_object x) s a none h = if_skipless (w.type_of x) x outer s a h
  inside_skipless outer (gives_list ms) s a none h = items_skipless outer 0 ms s a none h
  inside_skipless outer gives_skip s a none h = absurd h
  inside_skipless outer (fails_with text) s a none h = absurd h

  pub reached_skipless : {s : Spot G} {a : Outcome X} → Reaches w root initial all s a → IsSkipless a
  reached_skipless {s = s} {a = a} (at_root h) = fields_skipless root initial [] _ s a h
  reached_skipless {s = s} {a = a} (at_inside outer m r fits h) = inside_skipless outer m s a (reached_skipless r) h

  -- the premise of the explanation
  pub no_skip : (s : Spot G) → Reaches w root initial all s (answered gives_skip) → ⊥
  no_skip s r = reached_skipless r

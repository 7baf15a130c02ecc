-- Resolvers that leave nothing out.
use Rattle.gql_resolvers.specs.Resolved.{Meaning, Meanings, gives_leaf, gives_object, gives_list, gives_skip, fails_with, no_answer, answer_then}
use Rattle.gql_resolvers.specs.Resolved.{Outcome, answered, refused}
use Rattle.gql_resolvers.specs.World.{World}
use Rattle.gql_resolvers.specs.Spot.{Spot}
use Rattle.gql_resolvers.specs.Reached.{Reaches}

abbrev mutual
  -- no value that is to be left out, at any depth of lists
  pub SkipsNothing : {X : Type 0} → Meaning X → Type 0
  SkipsNothing (gives_leaf v) = Unit {0}
  SkipsNothing (gives_object x) = Unit {0}
  SkipsNothing (gives_list ms) = SkipNothing ms
  SkipsNothing gives_skip = ⊥
  SkipsNothing (fails_with text) = Unit {0}

  pub SkipNothing : {X : Type 0} → Meanings X → Type 0
  SkipNothing no_answer = Unit {0}
  SkipNothing (answer_then m ms) = SkipsNothing m × SkipNothing ms

abbrev pub IsSkipless : {X : Type 0} → Outcome X → Type 0
IsSkipless (answered m) = SkipsNothing m
IsSkipless (refused fault) = Unit {0}

-- nothing that is reached is to be left out
abbrev pub ReachesNoSkip : {X T G S : Type 0} → World X T G S → T → X → S → Type 0
ReachesNoSkip {G = G} w root initial all = (spot : Spot G) → ¬ (Reaches w root initial all spot (answered gives_skip))

-- Lists that are reached and fit have at most so many items.
use Rattle.std.specs.Prelude.{◌≡◌, ◌≤◌, ℕ, suc, None}
use Rattle.gql_resolvers.specs.Reached.{Reaches}
use Rattle.gql_resolvers.specs.Resolved.{Meanings, gives_list, no_answer, answer_then, answered}
use Rattle.gql_resolvers.specs.Spot.{Spot}
use Rattle.gql_resolvers.specs.World.{World}

abbrev pub count : {X : Type 0} → Meanings X → ℕ
count no_answer = 0
count (answer_then m ms) = suc (count ms)

abbrev pub AreShort : {X T G S : Type 0} → ℕ → World X T G S → T → X → S → Type 0
AreShort {X = X} {G = G} items w root initial all =
    (spot : Spot G) (ms : Meanings X) → Reaches w root initial all spot (answered (gives_list ms)) → w.misfit spot.type (gives_list ms) ≡ None
    → count ms ≤ items

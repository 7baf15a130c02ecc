-- What only private clauses and proofs cite, beside `Rounds`.
use Rattle.std.specs.Prelude.{ℕ, List, [], Option, Some, None}
use Rattle.gql_engine.specs.AnswerError.{Asks as AsksCall, Call, IsValid}
use Rattle.gql_rounds.specs.Table.{Table}
use Rattle.gql_rounds.specs.declared.ask.Ask.{Ask}
use Rattle.gql_rounds.specs.Rounds.{AreAskedOf}

-- what is found asked: that, or that the call is not valid
abbrev pub FindsAsks : Table → Call → Option (List (List ℕ × Ask)) → Type 0
FindsAsks table call (Some asks) = AsksCall call (λ wanted. AreAskedOf table wanted asks)
FindsAsks table call None = ¬ (IsValid call)

-- if the call is valid, nothing is asked
abbrev pub AsksNothing : Table → Call → Type 0
AsksNothing table call = IsValid call → AsksCall call (λ wanted. AreAskedOf table wanted [])

-- When a cost is refused. Want of memory alone is free.
use Rattle.std.specs.Prelude.{◌<◌, ℕ}
use Rattle.gql_engine.specs.declared.answer_error.AnswerError.TheVariants as error
use Rattle.gql_cost.specs.declared.limited_error.LimitedError.{LimitedError}
use Rattle.gql_cost.specs.declared.limited_error.LimitedError.TheVariants.{Answer, TooCostly}

-- it is above the limit, or memory ran out
abbrev pub IsAboveLimit : ℕ → ℕ → LimitedError → Type 0
IsAboveLimit most cost TooCostly = most < cost
IsAboveLimit most cost (Answer error.Memory) = Unit {0}
IsAboveLimit most cost (Answer refusal) = ⊥

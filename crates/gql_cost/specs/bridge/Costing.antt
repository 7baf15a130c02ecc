-- What only private clauses and proofs cite, beside `Costing`.
use Rattle.std.specs.Prelude.{◌≡◌}
use Rattle.gql_engine.specs.declared.answer_error.AnswerError.TheVariants as error
use Rattle.gql_cost.specs.declared.limited_error.LimitedError.{LimitedError}
use Rattle.gql_cost.specs.declared.limited_error.LimitedError.TheVariants.{Answer}

abbrev pub IsForMemory : LimitedError → Type 0
IsForMemory refusal = refusal ≡ Answer error.Memory

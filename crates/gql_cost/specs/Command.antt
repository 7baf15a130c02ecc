-- What the program replies to a request.
use Rattle.std.specs.Prelude.{◌≡◌, ◌≢◌, ℕ, List}
use Rattle.gql_resolvers.specs.DataMeaning.{data_meaning}
use Rattle.gql_engine.specs.Request.{Asked}
use Rattle.gql_engine.specs.Answered.{IsAnsweredInFull}
use Rattle.gql_engine.specs.Serving.{line}
use Rattle.gql_engine.specs.Reply.{root_of, wanted_of}
use Rattle.gql_engine.specs.declared.answer_error.AnswerError.TheVariants as error
use Rattle.gql_cost.specs.Limited.{AnsweredWithin, HasLimitedCauseOf, IsWithin}
use Rattle.gql_cost.specs.Told.{IsLimitedTold}
use Rattle.gql_cost.specs.declared.cost_limit.CostLimit.{CostLimit}
use Rattle.gql_cost.specs.declared.limited_error.LimitedError.{LimitedError}
use Rattle.gql_cost.specs.declared.limited_error.LimitedError.TheVariants.{Answer}

-- the text is a response to the request, out of its data, within the limit; and its data and errors explain each other
pub record Answers (limit : CostLimit) (request : Asked) (text : List ℕ) : Type 0 where
  pub bytes : List ℕ
  pub within : AnsweredWithin (λ object. object.type_name) data_meaning (root_of request) limit (wanted_of request) bytes
  pub explained : IsAnsweredInFull within.answered
  pub written : text ≡ line bytes

-- the text says why the request is refused
pub record Refuses (limit : CostLimit) (request : Asked) (text : List ℕ) : Type 0 where
  pub refusal : LimitedError
  pub cause : HasLimitedCauseOf limit (wanted_of request) refusal
  pub told : List ℕ
  pub says : IsLimitedTold refusal told
  pub written : text ≡ line told

-- nothing is in the way of a response, and its cost is within the limit
abbrev pub MustAnswer : CostLimit → Asked → Type 0
MustAnswer limit request = IsWithin limit (wanted_of request)

-- there is a cause of a refusal
pub record MustRefuse (limit : CostLimit) (request : Asked) : Type 0 where
  pub refusal : LimitedError
  pub told : refusal ≢ Answer error.Memory
  pub cause : HasLimitedCauseOf limit (wanted_of request) refusal

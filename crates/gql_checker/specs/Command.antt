-- What the program replies to a request.
use Rattle.std.specs.Prelude.{◌≡◌, ◌≢◌, ℕ, List}
use Rattle.gql_engine.specs.Reply.{wanted_of}
use Rattle.gql_engine.specs.Responding.{HasCauseOf}
use Rattle.gql_engine.specs.Serving.{line}
use Rattle.gql_engine.specs.Told.{IsToldOf}
use Rattle.gql_engine.specs.declared.answer_error.AnswerError.{AnswerError}
use Rattle.gql_engine.specs.declared.answer_error.AnswerError.TheVariants as error
use Rattle.gql_engine.specs.Request.{Asked}
use Rattle.gql_response_check.specs.declared.verdict.Verdict.{Verdict}
use Rattle.gql_response_check.specs.declared.verdict.Verdict.TheVariants.{Explained}
use Rattle.gql_checker.specs.Judged.{IsJudgedAs}
use Rattle.gql_checker.specs.Told.{told}

-- the response is explained, and the text says so
pub record Answers (request : Asked) (text : List ℕ) : Type 0 where
  pub judged : IsJudgedAs request Explained
  pub written : text ≡ line (told Explained)

-- the text tells another verdict, or why there is none
pub data Refuses (request : Asked) : List ℕ → Type 0 where
  other : (it : Verdict) → it ≢ Explained → IsJudgedAs request it → Refuses request (line (told it))
  unready : (refusal : AnswerError) (text : List ℕ) → HasCauseOf (wanted_of request) refusal → IsToldOf refusal text
      → Refuses request (line text)

-- nothing is in the way of an execution, and the response is explained
abbrev pub MustAnswer : Asked → Type 0
MustAnswer request = IsJudgedAs request Explained

-- there is another verdict, or a cause of a refusal
pub data MustRefuse (request : Asked) : Type 0 where
  unexplained : (it : Verdict) → it ≢ Explained → IsJudgedAs request it → MustRefuse request
  unready : (refusal : AnswerError) → refusal ≢ error.Memory → HasCauseOf (wanted_of request) refusal → MustRefuse request

-- What only private clauses and proofs cite, beside `Reply`.
use Rattle.std.specs.Prelude.{◌≡◌, ℕ, List, codes}
use Rattle.jb_print.specs.Compact.{compact}
use Rattle.gql_engine.specs.Answered.{AnswerLooks, IsAnsweredInFull}
use Rattle.gql_engine.specs.Ready.{Ready}
use Rattle.gql_engine.specs.Unanswered.{Unanswered}
use Rattle.gql_diag.specs.List.{Diagnostics}
use Rattle.gql_resolvers.specs.Data.{Data}
use Rattle.gql_resolvers.specs.DataMeaning.{data_meaning}
use Rattle.gql_diag.specs.Refusal.{refusal_value}
use Rattle.gql_engine.specs.Reports.{reports_of}
use Rattle.gql_engine.specs.Request.{Asked}
use Rattle.gql_response.specs.declared.graphql_error.GraphQLError.{GraphQLError}
use Rattle.gql_engine.specs.Meant.{AreFaults, Meant}
use Rattle.gql_engine.specs.Responding.{Responds}
use Rattle.gql_engine.specs.Serving.{line}
use Rattle.gql_engine.specs.declared.response_bytes.Written.{Written}
use Rattle.gql_engine.specs.declared.task.Wish.{Wish}
use Rattle.gql_engine.specs.declared.task.Wish.TheVariants.{Answer, Check}
use Rattle.gql_engine.specs.Reply.{wanted_of, root_of, AnswersAsked}

-- ---- what is wished of a request

-- the text is the line of a response to the request, whose data and errors explain each other; and these looks were counted for it
pub record IsResponseTo (before after : ℕ) (request : Asked) (text : List ℕ) : Type 0 where
  pub answered : AnswersAsked request text
  pub explained : IsAnsweredInFull answered
  pub looks : AnswerLooks answered before after

-- with the number of its errors
abbrev pub RespondsTo : Asked → (before after : ℕ) → Written → Type 0
RespondsTo request before after written =
    Responds (λ (object : Data). object.type_name) data_meaning (root_of request) (wanted_of request) before after written

-- what was asked for
abbrev pub WishAnswers : Wish → Asked → (before after : ℕ) → List ℕ → Type 0
WishAnswers Answer request before after text = (response : List ℕ) × IsResponseTo before after request response × (text ≡ line response)
WishAnswers Check request before after text = Meant request.schema request.query × (text ≡ line (codes "ok"))

-- why it is refused, or what is wrong with the texts
abbrev pub WishRefuses : Wish → Asked → List ℕ → Type 0
WishRefuses Answer request text =
    (errors : List GraphQLError) × Unanswered (wanted_of request) errors × (text ≡ line (compact (refusal_value errors)))
WishRefuses Check request text = (list : Diagnostics) × AreFaults request.schema request.query list × (text ≡ reports_of list)

-- nothing is in the way
abbrev pub WishMust : Wish → Asked → Type 0
WishMust Answer request = Ready (wanted_of request)
WishMust Check request = Meant request.schema request.query

-- there is a cause of a refusal
abbrev pub WishMustNot : Wish → Asked → Type 0
WishMustNot Answer request = (errors : List GraphQLError) × Unanswered (wanted_of request) errors
WishMustNot Check request = (list : Diagnostics) × AreFaults request.schema request.query list

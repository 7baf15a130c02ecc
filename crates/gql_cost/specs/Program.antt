-- What the program reads and writes.
use Rattle.std.specs.Prelude.{ℕ, List, Option, MatchOption}
use Rattle.jb_io.specs.Sink.{Told}
use Rattle.jb_io.specs.declared.serving.TheConstants.{ANSWERED, REFUSED}
use Rattle.gql_engine.specs.Request.{Asked}
use Rattle.gql_engine.specs.declared.request_form.RequestForm.{RequestForm}
use Rattle.gql_engine.specs.declared.request_form.RequestForm.TheVariants as forms
use Rattle.gql_engine.specs.Serving.{AnswersBytes, IsServed, MustAnswerBytes, MustRefuseBytes, MustServe, RefusesBytes}
use Rattle.gql_cost.specs.Command.{Answers, MustAnswer, MustRefuse, Refuses}
use Rattle.gql_cost.specs.Words.{Asks, IsNoCommand, usage}
use Rattle.gql_cost.specs.declared.cost_limit.CostLimit.{CostLimit}

abbrev pub plain_form : CostLimit → RequestForm
plain_form limit = forms.Plain

-- however many looks at selections were counted
abbrev pub CountedAnswers : CostLimit → Asked → ℕ → ℕ → List ℕ → Type 0
CountedAnswers limit request before after text = Answers limit request text

-- What the words ask for was served: a response within the limit to the request that was read, or the cause of its refusal; each other
-- status has its cause too. And a request that nothing is in the way of is answered where its cost is within the limit, and refused
-- where there is a cause, unless memory, the source or the sink fails. The four functions say what a source has left, what a sink
-- took, and the faults that each counted.
pub record Runs {S K : Type 0} (left : S → Option (List ℕ)) (source_faults : S → ℕ) (taken : K → Option Told) (sink_faults : K → ℕ)
    (words : List (List ℕ)) (source source' : S) (sink sink' : K) (status : ℕ) : Type 0 where
  pub asked : Option CostLimit
  pub asks : MatchOption asked (IsNoCommand words) (Asks words)
  pub before : ℕ
  pub after : ℕ
  pub served :
      IsServed (AnswersBytes plain_form CountedAnswers before after) (RefusesBytes plain_form Refuses) left source_faults taken sink_faults
      asked usage source source' sink sink' status
  pub done : MustServe (MustAnswerBytes plain_form MustAnswer) asked (left source) ANSWERED status
  pub caused : MustServe (MustRefuseBytes plain_form MustRefuse) asked (left source) REFUSED status

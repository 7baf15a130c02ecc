-- A request with an explained response gets that verdict, and one with another verdict or a cause of a refusal does not.
use Rattle.std.proofs.Common.{◌≡◌, subst}
use Rattle.gql_engine.specs.Ready.{Ready}
use Rattle.gql_engine.specs.Reply.{root_of, wanted_of}
use Rattle.gql_engine.specs.Responding.{HasCauseOf}
use Rattle.gql_engine.specs.declared.answer_error.AnswerError.{AnswerError}
use Rattle.gql_engine.specs.declared.answer_error.AnswerError.TheVariants as error
use Rattle.gql_engine.specs.Request.{Asked}
use Rattle.gql_resolvers.specs.Data.{Data}
use Rattle.gql_resolvers.specs.DataMeaning.{data_meaning}
use Rattle.gql_response_check.specs.declared.verdict.Verdict.{Verdict}
use Rattle.gql_response_check.specs.declared.verdict.Verdict.TheVariants.{Explained}
use Rattle.gql_checker.specs.Command.{MustRefuse, unexplained, unready}
use Rattle.gql_checker.specs.Judged.{IsJudgedAs, response_text}
use Rattle.gql_checker.proofs.One.{IsOneWay, only-explained}

module _ (request : Asked) (way : IsOneWay (wanted_of request)) where
  pub always-explained : (it : Verdict) → IsJudgedAs request it → IsJudgedAs request Explained → it ≡ Explained
  always-explained = only-explained (λ (object : Data). object.type_name) data_meaning (root_of request) (wanted_of request) way (response_text request)

  pub never-explained : ((refusal : AnswerError) → Ready (wanted_of request) → HasCauseOf (wanted_of request) refusal → refusal ≡ error.Memory)
      → MustRefuse request → (it : Verdict) → IsJudgedAs request it → it ≡ Explained → ⊥
  never-explained no-cause (unexplained other not judged) it here explained = not (always-explained other judged (subst (IsJudgedAs request) explained here))
  never-explained no-cause (unready refusal not cause) it here explained = not (no-cause refusal here.ready cause)

-- What a request is answered with. The relations hold between the bytes of the request, or what they ask, and the text that is written.
use Rattle.std.specs.Prelude.{◌≡◌, ℕ, List, [], ◌∷◌, unwrap_or}
use Rattle.jb_print.specs.Compact.{compact}
use Rattle.gql_engine.specs.Answered.{Answered, AnswerLooks, IsAnsweredInFull}
use Rattle.gql_engine.specs.Ready.{Ready}
use Rattle.gql_engine.specs.Unanswered.{Unanswered}
use Rattle.gql_engine.specs.Wanted.{Wanted}
use Rattle.gql_diag.specs.List.{Diagnostics}
use Rattle.gql_resolvers.specs.Data.{Data}
use Rattle.gql_resolvers.specs.DataMeaning.{data_meaning}
use Rattle.gql_diag.specs.Refusal.{message_error, refusal_value}
use Rattle.gql_engine.specs.Reports.{reports_of}
use Rattle.gql_engine.specs.NotAsked.{IsAsked, NotAsked}
use Rattle.gql_engine.specs.Request.{Asked}
use Rattle.gql_response.specs.declared.graphql_error.GraphQLError.{GraphQLError}
use Rattle.gql_engine.specs.Meant.{AreFaults, Meant}
use Rattle.gql_engine.specs.declared.request_form.RequestForm.TheVariants.{Plain}
use Rattle.gql_engine.specs.declared.task.Wish.{Wish}
use Rattle.gql_engine.specs.declared.task.Wish.TheVariants.{Answer, Check}

-- ---- a request that is to be answered

-- what the request wants: it has no variables unless it gives some
abbrev pub wanted_of : Asked → Wanted
wanted_of request = record {
  schema = request.schema;
  query = request.query;
  operation_name = request.operation_name;
  variables = unwrap_or request.variables [];
  introspection = request.introspection;
}

-- the root of a request's data
abbrev pub root_of : Asked → Data
root_of request = record { type_name = []; members = unwrap_or request.root [] }

-- the text is a response to what the request wants, out of its data
abbrev pub AnswersAsked : Asked → List ℕ → Type 0
AnswersAsked request text = Answered (λ object. object.type_name) data_meaning (root_of request) (wanted_of request) text

-- the bytes are those of a request, and the text is a response to it, whose data and errors explain each other; and these looks were
-- counted for it
pub record Answers (before after : ℕ) (bytes text : List ℕ) : Type 0 where
  pub request : Asked
  pub asks : IsAsked Plain bytes request
  pub answered : AnswersAsked request text
  pub explained : IsAnsweredInFull answered
  pub looks : AnswerLooks answered before after

-- why the bytes are refused, with the errors of each cause
pub data Cause (bytes : List ℕ) : List GraphQLError → Type 0 where
  not_asked : (message : List ℕ) → NotAsked Plain bytes message → Cause bytes (message_error message ∷ [])
  unanswered : (request : Asked) (errors : List GraphQLError) → IsAsked Plain bytes request → Unanswered (wanted_of request) errors → Cause bytes errors

-- the text says why the bytes are refused
pub record Refuses (bytes text : List ℕ) : Type 0 where
  pub errors : List GraphQLError
  pub cause : Cause bytes errors
  pub written : text ≡ compact (refusal_value errors)

-- ---- a request that is to be checked

-- both texts of the request mean something
pub record Passes (bytes : List ℕ) : Type 0 where
  pub request : Asked
  pub asks : IsAsked Plain bytes request
  pub meant : Meant request.schema request.query

-- the list is what is wrong with the first text of the request that means nothing
pub record IsFaulty (bytes : List ℕ) (list : Diagnostics) : Type 0 where
  pub request : Asked
  pub asks : IsAsked Plain bytes request
  pub faults : AreFaults request.schema request.query list

-- the text is the reports of that
pub record AreReports (bytes text : List ℕ) : Type 0 where
  pub list : Diagnostics
  pub faulty : IsFaulty bytes list
  pub written : text ≡ reports_of list

-- the text says why the bytes are no request
pub record SaysNotAsked (bytes text : List ℕ) : Type 0 where
  pub message : List ℕ
  pub not_asked : NotAsked Plain bytes message
  pub written : text ≡ compact (refusal_value (message_error message ∷ []))

-- ---- which requests may not be refused, and which must be

-- nothing is in the way of what is wished
abbrev pub MustDo : Wish → List ℕ → Type 0
MustDo Answer bytes = (request : Asked) × IsAsked Plain bytes request × Ready (wanted_of request)
MustDo Check bytes = Passes bytes

-- there is a cause of a refusal
pub data MustRefuse (wish : Wish) (bytes : List ℕ) : Type 0 where
  no_request : (message : List ℕ) → NotAsked Plain bytes message → MustRefuse wish bytes
  no_answer : (request : Asked) (errors : List GraphQLError) → wish ≡ Answer → IsAsked Plain bytes request → Unanswered (wanted_of request) errors
      → MustRefuse wish bytes
  faulty : (list : Diagnostics) → wish ≡ Check → IsFaulty bytes list → MustRefuse wish bytes

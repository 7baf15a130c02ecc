-- What the run of a wish says in the words of the program.
use Rattle.std.proofs.Common.{◌≡◌, ℕ, List, [], ◌∷◌, Option, Some, None, ◌⊎◌, refl, inl, inr, arith}
use Rattle.jb_io.specs.Sink.{Told}
use Rattle.jb_io.specs.declared.serving.TheConstants.{MISUSED, SINK_FAILED}
use Rattle.jb_print.specs.Compact.{compact}
use Rattle.gql_diag.specs.Refusal.{message_error, refusal_value}
use Rattle.gql_engine.specs.declared.request_form.RequestForm.{RequestForm}
use Rattle.gql_engine.specs.declared.request_form.RequestForm.TheVariants.{Plain}
use Rattle.gql_engine.specs.Output.{IsDone, IsRefused}
use Rattle.gql_engine.specs.Program.{BreaksOff, Writes}
use Rattle.gql_engine.specs.Reply.{MustDo, MustRefuse, faulty, no_answer, no_request as refused_request}
use Rattle.gql_engine.specs.bridge.Reply.{WishAnswers, WishMust, WishMustNot, WishRefuses}
use Rattle.gql_engine.specs.Reply.{not_asked as cause_not_asked, unanswered as cause_unanswered}
use Rattle.gql_engine.specs.Serving.{AnswersBytes, BreaksOff as BreaksOffHere, IsInput, MustAnswerBytes, MustRefuseBytes, RefusesBytes, Serves, no_request, not_asked, refusable, unanswered}
use Rattle.gql_engine.specs.Task.{Asks}
use Rattle.gql_engine.specs.declared.task.Task.{Task}
use Rattle.gql_engine.specs.declared.task.Task.TheVariants.{Request}
use Rattle.gql_engine.specs.declared.task.Wish.{Wish}
use Rattle.gql_engine.specs.declared.task.Wish.TheVariants.{Answer, Check}

abbrev pub form : Wish → RequestForm
form wish = Plain

module _ (before after : ℕ) where
  done_as : (wish : Wish) (bytes text : List ℕ) → AnswersBytes form WishAnswers before after wish bytes text → IsDone (Request wish) before after bytes text
  done_as Answer bytes text h =
      let response = h.answered.1 in
      record {
        within = h.answered.0;
        holds = record { request = h.request; asks = h.asks; answered = response.answered; explained = response.explained; looks = response.looks };
        is = h.answered.2;
      }
  done_as Check bytes text h = (record { request = h.request; asks = h.asks; meant = h.answered.0 }, h.answered.1)

  refused_as : (wish : Wish) (bytes text : List ℕ) → RefusesBytes form WishRefuses wish bytes text → IsRefused (Request wish) bytes text
  refused_as Answer bytes text (not_asked message why) = record {
    within = compact (refusal_value (message_error message ∷ []));
    holds = record { errors = message_error message ∷ []; cause = cause_not_asked message why; written = refl };
    is = refl;
  }
  refused_as Answer bytes text (unanswered request also asks why) = record {
    within = compact (refusal_value why.0);
    holds = record { errors = why.0; cause = cause_unanswered request why.0 asks why.1; written = refl };
    is = why.2;
  }
  refused_as Check bytes text (not_asked message why) = inl (record {
    within = compact (refusal_value (message_error message ∷ []));
    holds = record { message = message; not_asked = why; written = refl };
    is = refl;
  })
  refused_as Check bytes text (unanswered request also asks why) =
      inr (record { list = why.0; faulty = record { request = request; asks = asks; faults = why.1 }; written = why.2 })

  either_as : (wish : Wish) (bytes text : List ℕ) → AnswersBytes form WishAnswers before after wish bytes text ⊎ RefusesBytes form WishRefuses wish bytes text
      → IsDone (Request wish) before after bytes text ⊎ IsRefused (Request wish) bytes text
  either_as wish bytes text (inl h) = inl (done_as wish bytes text h)
  either_as wish bytes text (inr h) = inr (refused_as wish bytes text h)

  module _ (words : List (List ℕ)) (wish : Wish) (asks : Asks words (Request wish)) (left left' : Option (List ℕ)) (taken taken' : Option Told) where
    pub writes_answer : Serves (AnswersBytes form WishAnswers before after wish) left left' taken taken'
        → Writes (λ (task : Task). IsDone task before after) words left left' taken taken'
    writes_answer h = record {
      task = Request wish;
      asks = asks;
      bytes = h.bytes;
      text = h.text;
      read = h.read;
      means = done_as wish h.bytes h.text h.means;
      wrote = h.wrote;
    }

    pub writes_refusal : Serves (RefusesBytes form WishRefuses wish) left left' taken taken' → Writes IsRefused words left left' taken taken'
    writes_refusal h = record {
      task = Request wish;
      asks = asks;
      bytes = h.bytes;
      text = h.text;
      read = h.read;
      means = refused_as wish h.bytes h.text h.means;
      wrote = h.wrote;
    }

    pub breaks_off : BreaksOffHere (AnswersBytes form WishAnswers before after wish) (RefusesBytes form WishRefuses wish) left left' taken taken'
        → BreaksOff (λ (task : Task). IsDone task before after) IsRefused words left left' taken taken'
    breaks_off h = record {
      task = Request wish;
      asks = asks;
      bytes = h.bytes;
      text = h.text;
      read = h.read;
      means = either_as wish h.bytes h.text h.means;
      wrote = h.wrote;
    }

-- ---- which requests must be done, and which must be refused

must_as : (wish : Wish) (bytes : List ℕ) → MustDo wish bytes → MustAnswerBytes form WishMust wish bytes
must_as Answer bytes h = record { request = h.0; asks = h.1; must_be = h.2 }
must_as Check bytes h = record { request = h.request; asks = h.asks; must_be = h.meant }

must_not_as : (wish : Wish) (bytes : List ℕ) → MustRefuse wish bytes → MustRefuseBytes form WishMustNot wish bytes
must_not_as wish bytes (refused_request message h) = no_request message h
must_not_as Answer bytes (no_answer request errors is asks why) = refusable request asks (errors, why)
must_not_as Check bytes (no_answer request errors is asks why) = cc is
must_not_as Answer bytes (faulty list is h) = cc is
must_not_as Check bytes (faulty list is h) = refusable h.request h.asks (list, h.faults)

input_as : (P Q : List ℕ → Type 0) → ((bytes : List ℕ) → P bytes → Q bytes) → (left : Option (List ℕ)) → IsInput P left → IsInput Q left
input_as P Q f None h = absurd h
input_as P Q f (Some bytes) h = (h.0, f bytes h.1)

pub done_input : (wish : Wish) (left : Option (List ℕ)) → IsInput (MustDo wish) left → IsInput (MustAnswerBytes form WishMust wish) left
done_input wish left h = input_as (MustDo wish) (MustAnswerBytes form WishMust wish) (must_as wish) left h

pub refused_input : (wish : Wish) (left : Option (List ℕ)) → IsInput (MustRefuse wish) left → IsInput (MustRefuseBytes form WishMustNot wish) left
refused_input wish left h = input_as (MustRefuse wish) (MustRefuseBytes form WishMustNot wish) (must_not_as wish) left h

-- ---- where the words ask for nothing

-- no other status comes
pub other : {P : Type 0} (status n : ℕ) → (status ≡ MISUSED) ⊎ ((status ≡ SINK_FAILED) × P) → status ≡ n → (n ≡ MISUSED → ⊥) → (n ≡ SINK_FAILED → ⊥) → ⊥
other status n (inl h) s not_misused not_failed = not_misused (omega (arith, h, s))
other status n (inr h) s not_misused not_failed = not_failed (omega (arith, h.0, s))

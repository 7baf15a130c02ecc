-- What comes of a refusal, by what its cause is.
use Rattle.std.proofs.Common.{◌≡◌, ℕ, List, ◌∙◌, sym, subst}
use Rattle.std.specs.Prelude.{Result, Ok, Err, IfOk, box_value}
use Rattle.gql_engine.specs.declared.answer_error.AnswerError.{AnswerError}
use Rattle.gql_c.specs.Checks.{AreReports, ChecksTexts}
use Rattle.gql_c.specs.bridge.Outcomes.{IsRefusal, IsRefusedWith}
use Rattle.gql_c.specs.Replies.{HoldsReply}
use Rattle.gql_c.specs.Schemas.{Reads, TellsRefusal}
use Rattle.gql_c.specs.declared.held.Held.{Held}
use Rattle.gql_c.specs.declared.held.Held.TheVariants.{Schema, Query, Data, Reply, Answers}
use Rattle.gql_c.specs.declared.outcome.Outcome.{Outcome}
use Rattle.gql_c.specs.declared.outcome.Outcome.TheVariants.{Answered, Refused, NoMemory, WrongHandle, Unread}

-- what holds of the bytes of a reply may be said in another way
pub holds_more : (P Q : List ℕ → Type 0) → ((bytes : List ℕ) → P bytes → Q bytes) → (held : Held) → HoldsReply P held → HoldsReply Q held
holds_more P Q more (Schema service) wrong = absurd wrong
holds_more P Q more (Query query) wrong = absurd wrong
holds_more P Q more (Data members) wrong = absurd wrong
holds_more P Q more (Reply bytes) holds = more bytes holds
holds_more P Q more (Answers table) wrong = absurd wrong

-- the JSON of a refusal that has this cause
pub refusal_reads : (Holds : Held → Type 0) (Cause : AnswerError → Type 0) (refusal : AnswerError) (outcome : Outcome)
    → Cause refusal → IsRefusal refusal outcome → Reads Holds Cause outcome
refusal_reads Holds Cause refusal (Answered held) cause wrong = absurd wrong
refusal_reads Holds Cause refusal (Refused held) cause told =
    holds_more _ (TellsRefusal Cause) (λ bytes is. record { refusal = refusal; cause = cause; told = is }) (box_value held) told
refusal_reads Holds Cause refusal NoMemory cause told = tt
refusal_reads Holds Cause refusal WrongHandle cause wrong = absurd wrong
refusal_reads Holds Cause refusal Unread cause wrong = absurd wrong

-- the reports of what is wrong with two texts
pub reports_check : (schema query reports : List ℕ) {E : Type 0} (told : Result (List ℕ) E) (outcome : Outcome)
    → ((text : List ℕ) → text ≡ reports → AreReports schema query text) → IfOk told (λ text. text ≡ reports) → IsRefusedWith told outcome
    → ChecksTexts schema query outcome
reports_check schema query reports (Ok text) (Answered held) are is wrong = absurd wrong
reports_check schema query reports (Ok text) (Refused held) are is told =
    holds_more _ (AreReports schema query) (λ bytes same. are bytes (same ∙ is)) (box_value held) told
reports_check schema query reports (Ok text) NoMemory are is told = tt
reports_check schema query reports (Ok text) WrongHandle are is wrong = absurd wrong
reports_check schema query reports (Ok text) Unread are is wrong = absurd wrong
reports_check schema query reports (Err fault) outcome are is told = subst (λ (o : Outcome). ChecksTexts schema query o) (sym told) tt

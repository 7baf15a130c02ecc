-- What the run of a program that reads requests read and wrote, and what its exit status says of it.
use Rattle.std.specs.Prelude.{◌≡◌, ◌≢◌, ℕ, ◌≤◌, List, [], ◌∷◌, ◌++◌, length, Option, None, ◌⊎◌, IfSome, IsSomeAnd}
use Rattle.jb_io.specs.Sink.{Takes, TakesFront, Told}
use Rattle.jb_io.specs.Source.{GivesAtMost, GivesMore, ReadsWhole}
use Rattle.jb_io.specs.Stream.{HasFailed}
use Rattle.jb_io.specs.declared.stream.TheConstants.{INPUT_LIMIT}
use Rattle.jb_io.specs.declared.serving.TheConstants.{ANSWERED, MISUSED, NO_MEMORY, REFUSED, SINK_FAILED, SOURCE_FAILED, TOO_LONG}
use Rattle.jb_print.specs.Compact.{compact}
use Rattle.gql_diag.specs.Refusal.{message_error, refusal_value}
use Rattle.gql_engine.specs.NotAsked.{IsAsked, NotAsked}
use Rattle.gql_engine.specs.Request.{Asked}
use Rattle.gql_engine.specs.declared.request_form.RequestForm.{RequestForm}
use Rattle.gql_engine.specs.declared.output.Output.{Output}
use Rattle.gql_engine.specs.declared.output.Output.TheVariants.{Done, Refused}

-- a text as it is written, with its LF
abbrev pub line : List ℕ → List ℕ
line text = text ++ 10 ∷ []

-- the line that refuses with one message
abbrev pub message_line : List ℕ → List ℕ
message_line message = line (compact (refusal_value (message_error message ∷ [])))

-- ---- an output

-- its text is what was asked for, or says why that is refused
abbrev pub IsOutput : (answers refuses : List ℕ → Type 0) → Output → Type 0
IsOutput answers refuses (Done text) = answers text
IsOutput answers refuses (Refused text) = refuses text

abbrev pub IsDoneOutput : Output → Type 0
IsDoneOutput (Done text) = Unit {0}
IsDoneOutput (Refused text) = ⊥

abbrev pub IsRefusedOutput : Output → Type 0
IsRefusedOutput (Done text) = ⊥
IsRefusedOutput (Refused text) = Unit {0}

abbrev pub text_of : Output → List ℕ
text_of (Done text) = text
text_of (Refused text) = text

abbrev pub status_of : Output → ℕ
status_of (Done text) = ANSWERED
status_of (Refused text) = REFUSED

-- ---- a command over a request, by the bytes that are read

-- the bytes are a request of the command's form, and the text is what was asked for
pub record AnswersBytes {C : Type 0} (form : C → RequestForm) (answers : C → Asked → ℕ → ℕ → List ℕ → Type 0) (before after : ℕ)
    (command : C) (bytes text : List ℕ) : Type 0 where
  pub request : Asked
  pub asks : IsAsked (form command) bytes request
  pub answered : answers command request before after text

-- the text says why the bytes are no such request, or why that is refused
pub data RefusesBytes {C : Type 0} (form : C → RequestForm) (refuses : C → Asked → List ℕ → Type 0) (command : C) (bytes : List ℕ)
    : List ℕ → Type 0 where
  not_asked : (message : List ℕ) → NotAsked (form command) bytes message → RefusesBytes form refuses command bytes (message_line message)
  unanswered : (request : Asked) (text : List ℕ) → IsAsked (form command) bytes request → refuses command request text
      → RefusesBytes form refuses command bytes text

-- the bytes are a request that must be answered
pub record MustAnswerBytes {C : Type 0} (form : C → RequestForm) (must : C → Asked → Type 0) (command : C) (bytes : List ℕ) : Type 0 where
  pub request : Asked
  pub asks : IsAsked (form command) bytes request
  pub must_be : must command request

-- they are none, or one that must be refused
pub data MustRefuseBytes {C : Type 0} (form : C → RequestForm) (must : C → Asked → Type 0) (command : C) (bytes : List ℕ) : Type 0 where
  no_request : (message : List ℕ) → NotAsked (form command) bytes message → MustRefuseBytes form must command bytes
  refusable : (request : Asked) → IsAsked (form command) bytes request → must command request → MustRefuseBytes form must command bytes

-- ---- a run

-- the source was read whole, and a text that has this meaning for its bytes was written whole
pub record Serves (Meaning : List ℕ → List ℕ → Type 0) (left left' : Option (List ℕ)) (taken taken' : Option Told) : Type 0 where
  pub bytes : List ℕ
  pub text : List ℕ
  pub read : ReadsWhole left left' bytes
  pub means : Meaning bytes text
  pub wrote : Takes taken taken' text

-- the source was read whole, and a text that has one of these meanings for its bytes was written only in part
pub record BreaksOff (Answers Refuses : List ℕ → List ℕ → Type 0) (left left' : Option (List ℕ)) (taken taken' : Option Told) : Type 0 where
  pub bytes : List ℕ
  pub text : List ℕ
  pub read : ReadsWhole left left' bytes
  pub means : Answers bytes text ⊎ Refuses bytes text
  pub wrote : TakesFront taken taken' text

-- What the exit status of a run says of it. For a command the first two relations say which texts answer an input and which refuse it.
-- The next four functions say what a source has left, what a sink took, and the faults that each counted.
pub record IsServed {C S K : Type 0} (answers refuses : C → List ℕ → List ℕ → Type 0)
    (left : S → Option (List ℕ)) (source_faults : S → ℕ) (taken : K → Option Told) (sink_faults : K → ℕ)
    (asked : Option C) (usage : List ℕ) (source source' : S) (sink sink' : K) (status : ℕ) : Type 0 where
  pub statuses : status ≤ TOO_LONG
  -- the words: only where they ask for nothing is the usage line written, and then nothing is read
  pub misused : status ≡ MISUSED → (asked ≡ None) × Takes (taken sink) (taken sink') usage
  pub unasked : asked ≡ None → (status ≡ MISUSED) ⊎ ((status ≡ SINK_FAILED) × TakesFront (taken sink) (taken sink') usage)
  pub unread : asked ≡ None → source' ≡ source
  -- the output: what answers the input or refuses it, whole, or nothing
  pub answered : status ≡ ANSWERED → IsSomeAnd asked (λ command. Serves (answers command) (left source) (left source') (taken sink) (taken sink'))
  pub refused : status ≡ REFUSED → IsSomeAnd asked (λ command. Serves (refuses command) (left source) (left source') (taken sink) (taken sink'))
  pub nothing_written : (status ≡ NO_MEMORY) ⊎ ((status ≡ SOURCE_FAILED) ⊎ (status ≡ TOO_LONG)) → sink' ≡ sink
  -- the causes: the source failed, it gave more than the limit, and only then
  pub source_failed : status ≡ SOURCE_FAILED → HasFailed (source_faults source) (source_faults source')
  pub too_long : status ≡ TOO_LONG → GivesMore (left source) (left source')
  pub within : status ≢ TOO_LONG → IfSome asked (λ _. GivesAtMost (left source) (left source'))
  -- the sink failed, and took only the first of the output
  pub sink_failed : status ≡ SINK_FAILED → HasFailed (sink_faults sink) (sink_faults sink')
  pub broken_off : status ≡ SINK_FAILED
      → IfSome asked (λ command. BreaksOff (answers command) (refuses command) (left source) (left source') (taken sink) (taken sink'))

-- what is left to be read is no longer than the limit, and this holds of it
abbrev pub IsInput : (List ℕ → Type 0) → Option (List ℕ) → Type 0
IsInput Holds left = IsSomeAnd left (λ bytes. (length bytes ≤ INPUT_LIMIT) × Holds bytes)

-- want of memory, of the source or of the sink came in the way
abbrev pub IsCutShort : ℕ → Type 0
IsCutShort status = (status ≡ NO_MEMORY) ⊎ ((status ≡ SOURCE_FAILED) ⊎ (status ≡ SINK_FAILED))

-- an input that must be answered is, unless that comes in the way; and one that must be refused is
abbrev pub MustServe : {C : Type 0} → (C → List ℕ → Type 0) → Option C → Option (List ℕ) → (due status : ℕ) → Type 0
MustServe must asked left due status = IfSome asked (λ command. IsInput (must command) left → (status ≡ due) ⊎ IsCutShort status)

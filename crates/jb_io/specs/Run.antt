-- What a run of a program read and wrote, and what its exit status says of it.
use Rattle.std.specs.Prelude.{◌≡◌, ◌≢◌, ℕ, ◌≤◌, List, Option, None, ◌⊎◌, IfSome, IsSomeAnd}
use Rattle.jb_io.specs.Sink.{Takes, TakesFront, Told}
use Rattle.jb_io.specs.Source.{GivesAtMost, GivesMore, ReadsWhole}
use Rattle.jb_io.specs.Stream.{HasFailed}
use Rattle.jb_io.specs.declared.serving.TheConstants.{ANSWERED, MISUSED, NO_MEMORY, REFUSED, SINK_FAILED, SOURCE_FAILED, TOO_LONG}
use Rattle.jb_io.specs.Reply.{line}

-- the source was read whole, and a text that has this meaning for its bytes was written whole, with its LF
pub record Serves (Meaning : List ℕ → List ℕ → Type 0) (left left' : Option (List ℕ)) (taken taken' : Option Told) : Type 0 where
  pub bytes : List ℕ
  pub text : List ℕ
  pub read : ReadsWhole left left' bytes
  pub means : Meaning bytes text
  pub wrote : Takes taken taken' (line text)

-- the source was read whole, and a text that has one of these meanings for its bytes was written only in part
pub record BreaksOff (Answers Refuses : List ℕ → List ℕ → Type 0) (left left' : Option (List ℕ)) (taken taken' : Option Told) : Type 0 where
  pub bytes : List ℕ
  pub text : List ℕ
  pub read : ReadsWhole left left' bytes
  pub means : Answers bytes text ⊎ Refuses bytes text
  pub wrote : TakesFront taken taken' (line text)

-- What the exit status of a run says of it. For a command the first two relations say which texts answer an input and which refuse it.
-- The next four functions say what a source has left, what a sink took, and the faults that each counted.
pub record IsServed {C S K : Type 0} (answers refuses : C → List ℕ → List ℕ → Type 0)
    (left : S → Option (List ℕ)) (source_faults : S → ℕ) (taken : K → Option Told) (sink_faults : K → ℕ)
    (asked : Option C) (usage : List ℕ) (source source' : S) (sink sink' : K) (status : ℕ) : Type 0 where
  pub statuses : status ≤ TOO_LONG
  -- the words: only where they ask for nothing is the usage line written, and then nothing is read
  pub misused : status ≡ MISUSED → (asked ≡ None) × Takes (taken sink) (taken sink') usage
  pub unasked : asked ≡ None → (status ≡ MISUSED) ⊎ ((status ≡ SINK_FAILED) × TakesFront (taken sink) (taken sink') usage)
  pub unread : asked ≡ None → source' ≡ source
  -- the output: what answers the input or refuses it, whole, or nothing
  pub answered : status ≡ ANSWERED → IsSomeAnd asked (λ command. Serves (answers command) (left source) (left source') (taken sink) (taken sink'))
  pub refused : status ≡ REFUSED → IsSomeAnd asked (λ command. Serves (refuses command) (left source) (left source') (taken sink) (taken sink'))
  pub nothing_written : (status ≡ NO_MEMORY) ⊎ ((status ≡ SOURCE_FAILED) ⊎ (status ≡ TOO_LONG)) → sink' ≡ sink
  -- the causes: the source failed, it gave more than the limit, and only then
  pub source_failed : status ≡ SOURCE_FAILED → HasFailed (source_faults source) (source_faults source')
  pub too_long : status ≡ TOO_LONG → GivesMore (left source) (left source')
  pub within : status ≢ TOO_LONG → IfSome asked (λ _. GivesAtMost (left source) (left source'))
  -- the sink failed, and took only the first of the output
  pub sink_failed : status ≡ SINK_FAILED → HasFailed (sink_faults sink) (sink_faults sink')
  pub broken_off : status ≡ SINK_FAILED
      → IfSome asked (λ command. BreaksOff (answers command) (refuses command) (left source) (left source') (taken sink) (taken sink'))

-- What only private clauses and proofs cite, beside `Program`.
use Rattle.std.specs.Prelude.{◌≡◌, ℕ, List, Option, ◌⊎◌}
use Rattle.jb_io.specs.Sink.{Takes, TakesFront, Told}
use Rattle.jb_io.specs.Stream.{HasFailed}
use Rattle.gql_engine.specs.Output.{Line, Measures}
use Rattle.jb_io.specs.declared.serving.TheConstants.{ANSWERED, NO_MEMORY, SINK_FAILED}

-- ---- on the way

-- What became of a self-test, by the status: its text was written whole, or in part, since the sink failed; or memory ran out, and then
-- nothing was written.
abbrev pub IsTested : (items before after : ℕ) → (taken taken' : Option Told) → (faults faults' : ℕ) → (Untouched : Type 0) → ℕ → Type 0
IsTested items before after taken taken' faults faults' Untouched status =
    ((status ≡ ANSWERED) × ((text : List ℕ) × Line (Measures before after items) text × Takes taken taken' text))
    ⊎ (((status ≡ SINK_FAILED)
    × ((text : List ℕ) × Line (Measures before after items) text × TakesFront taken taken' text × HasFailed faults faults'))
    ⊎ ((status ≡ NO_MEMORY) × Untouched))

-- What the run of a self-test says in the words of the program.
use Rattle.std.proofs.Common.{◌≡◌, ◌≤◌, ◌⊎◌, ℕ, List, [], Option, refl, inl, inr, arith}
use Rattle.jb_io.specs.Sink.{Told}
use Rattle.jb_io.specs.Stream.{HasFailed}
use Rattle.jb_io.specs.declared.serving.TheConstants.{ANSWERED, NO_MEMORY, SINK_FAILED, SOURCE_FAILED, TOO_LONG}
use Rattle.gql_engine.specs.Output.{IsDone, IsRefused}
use Rattle.gql_engine.specs.Program.{BreaksOff, Writes}
use Rattle.gql_engine.specs.bridge.Program.{IsTested}
use Rattle.gql_engine.specs.Task.{Asks}
use Rattle.gql_engine.specs.declared.task.Task.{Task}
use Rattle.gql_engine.specs.declared.task.Task.TheVariants.{SelfTest}

module _ (items before after : ℕ) (taken taken' : Option Told) (kf kf' : ℕ) (Untouched : Type 0) (status : ℕ) where
  abbrev Tested : Type 0
  Tested = IsTested items before after taken taken' kf kf' Untouched status

  pub statuses : Tested → status ≤ TOO_LONG
  statuses (inl h) = omega (arith, h.0)
  statuses (inr (inl h)) = omega (arith, h.0)
  statuses (inr (inr h)) = omega (arith, h.0)

  -- no other status comes
  pub other : (n : ℕ) → Tested → status ≡ n → (n ≡ ANSWERED → ⊥) → (n ≡ SINK_FAILED → ⊥) → (n ≡ NO_MEMORY → ⊥) → ⊥
  other n (inl h) s answered sink memory = answered (omega (arith, h.0, s))
  other n (inr (inl h)) s answered sink memory = sink (omega (arith, h.0, s))
  other n (inr (inr h)) s answered sink memory = memory (omega (arith, h.0, s))

  pub sink_failed : Tested → status ≡ SINK_FAILED → HasFailed kf kf'
  sink_failed (inl h) s = absurd (omega (arith, h.0, s))
  sink_failed (inr (inl h)) s = h.1.3
  sink_failed (inr (inr h)) s = absurd (omega (arith, h.0, s))

  pub nothing_written : Tested → (status ≡ NO_MEMORY) ⊎ ((status ≡ SOURCE_FAILED) ⊎ (status ≡ TOO_LONG)) → Untouched
  nothing_written (inr (inr h)) s = h.1
  nothing_written (inl h) (inl s) = absurd (omega (arith, h.0, s))
  nothing_written (inl h) (inr (inl s)) = absurd (omega (arith, h.0, s))
  nothing_written (inl h) (inr (inr s)) = absurd (omega (arith, h.0, s))
  nothing_written (inr (inl h)) (inl s) = absurd (omega (arith, h.0, s))
  nothing_written (inr (inl h)) (inr (inl s)) = absurd (omega (arith, h.0, s))
  nothing_written (inr (inl h)) (inr (inr s)) = absurd (omega (arith, h.0, s))

  pub self_tested : Tested → (status ≡ ANSWERED) ⊎ ((status ≡ NO_MEMORY) ⊎ (status ≡ SINK_FAILED))
  self_tested (inl h) = inl h.0
  self_tested (inr (inl h)) = inr (inr h.0)
  self_tested (inr (inr h)) = inr (inl h.0)

  module _ (words : List (List ℕ)) (asks : Asks words (SelfTest items)) (left left' : Option (List ℕ)) where
    pub writes : Tested → status ≡ ANSWERED → Writes (λ (task : Task). IsDone task before after) words left left' taken taken'
    writes (inl h) s = record { task = SelfTest items; asks = asks; bytes = []; text = h.1.0; read = refl; means = h.1.1; wrote = h.1.2 }
    writes (inr (inl h)) s = absurd (omega (arith, h.0, s))
    writes (inr (inr h)) s = absurd (omega (arith, h.0, s))

    pub breaks_off : Tested → status ≡ SINK_FAILED → BreaksOff (λ (task : Task). IsDone task before after) IsRefused words left left' taken taken'
    breaks_off (inr (inl h)) s = record { task = SelfTest items; asks = asks; bytes = []; text = h.1.0; read = refl; means = inl h.1.1; wrote = h.1.2 }
    breaks_off (inl h) s = absurd (omega (arith, h.0, s))
    breaks_off (inr (inr h)) s = absurd (omega (arith, h.0, s))

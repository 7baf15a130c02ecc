-- What the prover leaves open of `run_in_memory`: streams in memory do not fail.
use Rattle.std.proofs.Common.{◌⊎◌, inl, inr}
use Rattle.gql_engine.specs.declared.task.Task.TheVariants.{Request}
use Rattle.gql_engine.proofs.LongInput.{never_failed, not_written, too_long_or_no_memory}
use Rattle.gql_engine.proofs.program.run_in_memory.Goals as goal

unless-failed : {Done Memory Source Sink : Type 0} → (Source → ⊥) → (Sink → ⊥) → Done ⊎ (Memory ⊎ (Source ⊎ Sink)) → Done ⊎ Memory
unless-failed source sink (inl done) = inl done
unless-failed source sink (inr (inl memory)) = inr memory
unless-failed source sink (inr (inr (inl failed))) = absurd (source failed)
unless-failed source sink (inr (inr (inr failed))) = absurd (sink failed)

pub returns-clause-too_long : goal.returns-clause-too_long
returns-clause-too_long g c =
    λ reads long. too_long_or_no_memory c.run.result c.run.ensures.statuses
    (λ s. not_written _ _ _ _ _ _ reads long (c.run.ensures.answered s))
    (λ s. not_written _ _ _ _ _ _ reads long (c.run.ensures.refused s))
    (λ s. (c.run.ensures.misused s).0 (Request reads.0) reads.1)
    (λ s. never_failed (c.run.ensures.source_failed s).1)
    (λ s. never_failed (c.run.ensures.sink_failed s))

pub returns-clause-caused : goal.returns-clause-caused
returns-clause-caused g c =
    λ wish asks input. unless-failed (λ s. never_failed (c.run.ensures.source_failed s).1) (λ s. never_failed (c.run.ensures.sink_failed s))
    (c.run.ensures.caused wish asks input)

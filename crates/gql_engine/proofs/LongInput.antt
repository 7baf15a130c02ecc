-- What becomes of an input that is too long.
use Rattle.std.proofs.Common.{◌≡◌, ◌≤◌, ◌<◌, ◌⊎◌, ℕ, zero, suc, List, ◌++◌, length, Option, Some, None, refl, ◌∙◌, ap, subst, inl, inr, arith, append-nil}
use Rattle.jb_io.specs.Sink.{Told}
use Rattle.jb_io.specs.Source.{ReadsWhole}
use Rattle.jb_io.specs.Stream.{HasFailed}
use Rattle.jb_io.specs.declared.stream.TheConstants.{INPUT_LIMIT}
use Rattle.gql_engine.specs.declared.task.Task.{Task}
use Rattle.gql_engine.specs.declared.task.Task.TheVariants.{Request}
use Rattle.gql_engine.specs.Program.{ReadsFor, Writes}
use Rattle.gql_engine.specs.Task.{ReadsInput}
use Rattle.gql_engine.proofs.Words.{same_task}

-- it is not read to its end
not_whole : (rest : List ℕ) (left' : Option (List ℕ)) (bytes : List ℕ) → INPUT_LIMIT < length rest → ReadsWhole (Some rest) left' bytes → ⊥
not_whole rest None bytes long r = absurd r.gave
not_whole rest (Some ys) bytes long r =
    let is : rest ≡ bytes = r.gave ∙ ap (λ (z : List ℕ). bytes ++ z) r.end ∙ append-nil bytes in
    omega (arith, long, r.within, ap length is)

-- so nothing is written of it
pub not_written : (Meaning : Task → List ℕ → List ℕ → Type 0) (words : List (List ℕ)) (rest : List ℕ) (left' : Option (List ℕ)) (taken taken' : Option Told)
    → ReadsInput words → INPUT_LIMIT < length rest → Writes Meaning words (Some rest) left' taken taken' → ⊥
not_written Meaning words rest left' taken taken' reads long w =
    let is : w.task ≡ Request reads.0 = same_task words w.task reads.0 w.asks reads.1 in
    not_whole rest left' w.bytes long (subst (λ (t : Task). ReadsFor t (Some rest) left' w.bytes) is w.read)

-- what counts no faults does not fail
pub never_failed : HasFailed 0 0 → ⊥
never_failed h = omega (arith, h)

-- the statuses that are left
pub too_long_or_no_memory : (status : ℕ) → status ≤ 6 → (status ≡ 0 → ⊥) → (status ≡ 1 → ⊥) → (status ≡ 2 → ⊥) → (status ≡ 4 → ⊥) → (status ≡ 5 → ⊥)
    → (status ≡ 6) ⊎ (status ≡ 3)
too_long_or_no_memory zero most answered refused misused source sink = absurd (answered refl)
too_long_or_no_memory (suc zero) most answered refused misused source sink = absurd (refused refl)
too_long_or_no_memory (suc (suc zero)) most answered refused misused source sink = absurd (misused refl)
too_long_or_no_memory (suc (suc (suc zero))) most answered refused misused source sink = inr refl
too_long_or_no_memory (suc (suc (suc (suc zero)))) most answered refused misused source sink = absurd (source refl)
too_long_or_no_memory (suc (suc (suc (suc (suc zero))))) most answered refused misused source sink = absurd (sink refl)
too_long_or_no_memory (suc (suc (suc (suc (suc (suc zero)))))) most answered refused misused source sink = inl refl
too_long_or_no_memory (suc (suc (suc (suc (suc (suc (suc n))))))) most answered refused misused source sink = absurd (omega (arith, most))

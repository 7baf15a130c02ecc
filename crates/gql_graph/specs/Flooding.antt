-- The steps of a flood: a node of the old mark gets the new one, and goes last in the queue.
use Rattle.std.specs.Prelude.{ℕ, Bool, false, ◌==◌, Option, Some, None}

abbrev pub has : ℕ → Option ℕ → Bool
has mark None = false
has mark (Some found) = found == mark

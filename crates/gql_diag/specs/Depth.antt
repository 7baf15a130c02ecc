-- A count of levels.
use Rattle.std.specs.Prelude.{ℕ}

-- how many levels are open, and at how many no other opens
pub record Depth : Type 0 where
  pub depth : ℕ
  pub limit : ℕ

-- What only private clauses and proofs cite, beside `Pairs`.
use Rattle.std.specs.Prelude.{Option, Some, None}

-- neither is there, or both are and are related
abbrev pub Both : {X Y : Type 0} → (X → Y → Type 0) → Option X → Option Y → Type 0
Both Related None None = Unit {0}
Both Related (Some x) (Some y) = Related x y
Both Related _ _ = ⊥

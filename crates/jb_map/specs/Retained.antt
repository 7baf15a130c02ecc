-- What `retain` leaves.
use Rattle.std.specs.Prelude.{◌≡◌, ℕ, Bool, List, [], ◌∷◌, if◌then◌else◌}
use Rattle.std.specs.Borrow.{Bor}
use denote.Param.Members.{Shared}

-- a call of the test at a key and a value may give b
pub record Keeps {F V : Type 0} (g : Shared F (Bor (List ℕ) × (Bor V × Unit {0})) Bool) (f : F) (k : List ℕ) (v : V) (b : Bool) : Type 0 where
  pub key : Bor (List ℕ)
  pub value : Bor V
  pub shows_key : key.now ≡ k
  pub shows_value : value.now ≡ v
  pub says : g.post f (key, (value, tt)) b

-- kept has the pairs for which the test T gives true, in their order
abbrev pub Retains : {V : Type 0} → (List ℕ → V → Bool → Type 0) → List (List ℕ × V) → List (List ℕ × V) → Type 0
Retains T [] kept = kept ≡ []
Retains {V} T (e ∷ es) kept = (b : Bool) × (rest : List (List ℕ × V)) × T e.0 e.1 b × Retains T es rest × (kept ≡ (if b then e ∷ rest else rest))

-- What the code's machine holds, as a state, and what its output stands for.
use Rattle.std.specs.Prelude.{◌≡◌, ℕ, List, ◌∷◌, reverse}
use Rattle.gql_cst.specs.declared.frame.Frame.{Frame}
use Rattle.gql_cst.specs.declared.machine.Machine.{Machine}
use Rattle.gql_cst.specs.Forest.{Plain}
use Rattle.gql_cst.specs.bridge.Machine.{State}
use Rattle.gql_cst.specs.bridge.Lies.{Lies}
use Rattle.gql_cst.specs.bridge.Open.{Open}

abbrev pub frames_of : {O : Type 0} → Machine O → List Frame
frames_of m = m.top ∷ reverse m.outer.items

-- The machine holds the state, and these ignored tokens wait for the next word, which begins at the place.
pub record Holds {O : Type 0} (Stands : O → ℕ → List Open → List Plain → Type 0) (m : Machine O) (at : ℕ) (waiting : List Plain) (s : State)
    : Type 0 where
  pub lies : Lies Stands (frames_of m) m.out at waiting s
  pub level : s.level ≡ m.level
  pub deepest : s.deepest ≡ m.deepest

-- whatever state it held before, it holds this one now
abbrev pub Becomes : {O : Type 0} → (O → ℕ → List Open → List Plain → Type 0) → Machine O → Machine O → ℕ → (State → State) → Type 0
Becomes Stands old new at step = (waiting : List Plain) (s : State) → Holds Stands old at waiting s → Holds Stands new at waiting (step s)

-- whatever state it held before, it holds one now of which this is true
abbrev pub Goes : {O : Type 0} → (O → ℕ → List Open → List Plain → Type 0) → Machine O → Machine O → ℕ → (State → State → Type 0)
    → Type 0
Goes Stands old new at Then =
    (waiting : List Plain) (s : State) → Holds Stands old at waiting s → (t : State) × Holds Stands new at waiting t × Then s t

-- it holds some state
abbrev pub IsHeld : {O : Type 0} → (O → ℕ → List Open → List Plain → Type 0) → Machine O → ℕ → Type 0
IsHeld Stands m at = (waiting : List Plain) × (s : State) × Holds Stands m at waiting s

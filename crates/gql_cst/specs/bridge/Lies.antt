-- What an output stands for, beside the rules that are open.
use Rattle.std.specs.Prelude.{◌≡◌, ℕ, List, ◌∷◌, length}
use Rattle.gql_cst.specs.declared.frame.Frame.{Frame}
use Rattle.gql_cst.specs.Forest.{Plain}
use Rattle.gql_cst.specs.bridge.Frames.{stack_of, nodes_of}
use Rattle.gql_cst.specs.bridge.Machine.{State}
use Rattle.gql_cst.specs.bridge.Open.{Open, opens}

-- The open rules have the state's symbols and rows, and the output stands for the rows, at a place of the text.
pub record Lies {O : Type 0} (Stands : O → ℕ → List Open → List Plain → Type 0) (frames : List Frame) (out : O) (at : ℕ) (waiting : List Plain)
    (s : State) : Type 0 where
  pub stack : s.stack ≡ stack_of frames
  pub many : length (s.row ∷ s.rows) ≡ length (nodes_of frames)
  pub made : Stands out at (opens (nodes_of frames) (s.row ∷ s.rows)) waiting

-- What an object is read as.
use Rattle.std.specs.Prelude.{ℕ, List, Result, Ok}
use Rattle.jb_tree.specs.declared.value.Value.{Value}
use Rattle.jb_shape.specs.declared.members.Members.{Members}
use Rattle.jb_shape.specs.declared.shape_error.ShapeError.{ShapeError}
use Rattle.jb_shape.specs.Outcome.{and_then}
use Rattle.jb_shape.specs.Lists.{read_members_of}

abbrev pub reading_of_members : {K V : Type 0} → (List ℕ → Result K ShapeError) → (Value → Result V ShapeError) → Value
    → Result (Members K V) ShapeError
reading_of_members key reading value = and_then (read_members_of key reading value) (λ pairs. Ok (record { pairs = pairs }))

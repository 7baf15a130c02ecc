-- Objects of plain JSON data.
use Rattle.std.specs.Prelude.{ℕ, List}
use Rattle.jb_tree.specs.declared.value.Value.{Value}

-- an object of the data, as its resolver sees it
pub record Data : Type 0 where
  pub type_name : List ℕ
  pub members : List (List ℕ × Value)

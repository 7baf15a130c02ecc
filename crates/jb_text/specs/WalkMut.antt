-- What the walks that lend a map's values show.
use Rattle.std.specs.Prelude.{ℕ, List, Option, zip}
use Rattle.std.specs.Borrow.{GName, MutBor}
use Rattle.std.specs.Slice.Iter as slice
use Rattle.jb_text.specs.declared.iter_mut.IterMut.{IterMut}
use Rattle.jb_text.specs.declared.iter_mut.ValuesMut.{ValuesMut}

module _ {V : Type 0} where
  -- the pairs that are left
  abbrev pub pairs_left : IterMut V → List (List ℕ × V)
  pairs_left s = zip (slice.iter_rest s.keys) (slice.iter_mut_rest s.values)

  -- the name of the loan
  abbrev pub pairs_name : IterMut V → GName
  pairs_name s = slice.iter_mut_name s.values

  -- the values that are left
  abbrev pub values_left : ValuesMut V → List V
  values_left s = slice.iter_mut_rest s.left

  -- the name of the loan
  abbrev pub values_name : ValuesMut V → GName
  values_name s = slice.iter_mut_name s.left

  -- a call of `next` at s gave r and left t
  abbrev pub values_step : ValuesMut V → Option (MutBor V) → ValuesMut V → Type 0
  values_step s r t = slice.iter_mut_steps s.left r t.left

  -- the same of `next_back`
  abbrev pub values_step_back : ValuesMut V → Option (MutBor V) → ValuesMut V → Type 0
  values_step_back s r t = slice.iter_mut_steps_back s.left r t.left

-- What a depth check made of a set or of one selection.
use Rattle.std.specs.Prelude.{◌≡◌, ℕ, ◌+◌, ◌≤◌, ◌<◌, max}
use Rattle.gql_collect.specs.Nested.{Nested, Fragments, Place}
use Rattle.gql_collect.specs.bridge.Check.{Memo, Accepts, Refuses, unentered}
use Rattle.gql_collect.specs.View.{One, then_more}

pub record Accepted (fragments : Fragments) (c : ℕ) (s : Nested) (m : Memo) (t d : ℕ) (n : Memo) (u : ℕ) : Type 0 where
  pub taken : ℕ
  pub looks : u ≡ t + taken
  pub fewer : unentered fragments n ≤ unentered fragments m
  pub low : c + d < 3
  pub accepts : Accepts fragments c m s d n taken

pub record Refused (fragments : Fragments) (c : ℕ) (s : Nested) (m : Memo) (t : ℕ) (at : Place) (u : ℕ) : Type 0 where
  pub taken : ℕ
  pub looks : u ≡ t + taken
  pub refuses : Refuses fragments c m s at taken

-- the same of one selection, whatever follows it
pub record AcceptedOne (fragments : Fragments) (c : ℕ) (one : One) (m : Memo) (t d : ℕ) (n : Memo) (u : ℕ) : Type 0 where
  pub taken : ℕ
  pub looks : u ≡ t + taken
  pub fewer : unentered fragments n ≤ unentered fragments m
  pub low : c + d < 3
  pub accepts : (rest : Nested) (e k : ℕ) (o : Memo) → Accepts fragments c n rest e o k
      → Accepts fragments c m (then_more one rest) (max d e) o (taken + k)
  pub refuses : (rest : Nested) (at : Place) (k : ℕ) → Refuses fragments c n rest at k → Refuses fragments c m (then_more one rest) at (taken + k)

pub record RefusedOne (fragments : Fragments) (c : ℕ) (one : One) (m : Memo) (t : ℕ) (at : Place) (u : ℕ) : Type 0 where
  pub taken : ℕ
  pub looks : u ≡ t + taken
  pub refuses : (rest : Nested) → Refuses fragments c m (then_more one rest) at taken

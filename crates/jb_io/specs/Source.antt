-- What reading a source to its end took from it.
use Rattle.std.specs.Prelude.{ℕ, ◌<◌, ◌≤◌, List, Option, length}
use Rattle.std.specs.Io.KnownBytes.{Consumes, IsAtEnd}
use Rattle.jb_io.specs.declared.stream.TheConstants.{INPUT_LIMIT}

-- the source gave these bytes, no more than the limit, and has none left
pub record ReadsWhole (old new : Option (List ℕ)) (bytes : List ℕ) : Type 0 where
  pub gave : Consumes old new bytes
  pub end : IsAtEnd new
  pub within : length bytes ≤ INPUT_LIMIT

-- the source gave more bytes than the limit
pub record GivesMore (old new : Option (List ℕ)) : Type 0 where
  pub bytes : List ℕ
  pub gave : Consumes old new bytes
  pub more : INPUT_LIMIT < length bytes

-- the source gave no more bytes than the limit
pub record GivesAtMost (old new : Option (List ℕ)) : Type 0 where
  pub bytes : List ℕ
  pub gave : Consumes old new bytes
  pub within : length bytes ≤ INPUT_LIMIT

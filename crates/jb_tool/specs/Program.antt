-- What the program writes of itself, and which inputs it refuses to read.
use Rattle.std.specs.Prelude.{ℕ, ◌<◌, List, Option, IsSomeAnd, codes, length}
use Rattle.jb_io.specs.declared.stream.TheConstants.{INPUT_LIMIT}
use Rattle.jb_io.specs.Reply.{line}

-- what is written where the words are no command
abbrev pub usage : List ℕ
usage = line (codes "usage: jb_program compact | pretty")

-- more than may be read is there
abbrev pub IsLong : Option (List ℕ) → Type 0
IsLong left = IsSomeAnd left (λ bytes. INPUT_LIMIT < length bytes)

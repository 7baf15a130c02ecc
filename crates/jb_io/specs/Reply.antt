-- What a command replies to its input.
use Rattle.std.specs.Prelude.{ℕ, List, [], ◌∷◌, ◌++◌}
use Rattle.jb_io.specs.declared.command.Reply.{Reply}
use Rattle.jb_io.specs.declared.command.Reply.TheVariants.{Answer, Refusal}

-- a text as it is written, with its LF
abbrev pub line : List ℕ → List ℕ
line text = text ++ 10 ∷ []

-- the text is one that answers the bytes, or one that says why they are refused
abbrev pub IsReply : (answers refuses : List ℕ → List ℕ → Type 0) → List ℕ → Reply → Type 0
IsReply answers refuses bytes (Answer text) = answers bytes text
IsReply answers refuses bytes (Refusal text) = refuses bytes text

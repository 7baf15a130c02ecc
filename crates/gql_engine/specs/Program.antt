-- What the program reads and writes of itself.
use Rattle.std.specs.Prelude.{◌≡◌, ℕ, ◌<◌, List, [], Option, ◌⊎◌, IsSomeAnd, length, codes}
use Rattle.jb_io.specs.Sink.{Takes, TakesFront, Told}
use Rattle.jb_io.specs.Source.{ReadsWhole}
use Rattle.jb_io.specs.declared.stream.TheConstants.{INPUT_LIMIT}
use Rattle.gql_engine.specs.Serving.{line}
pub use Rattle.gql_engine.specs.Serving.{IsInput}
use Rattle.gql_engine.specs.Task.{Asks}
use Rattle.gql_engine.specs.declared.task.Task.{Task}
use Rattle.gql_engine.specs.declared.task.Task.TheVariants.{Request, SelfTest}
pub use Rattle.gql_engine.specs.Reply.{MustDo, MustRefuse}

-- what is written where the words are no command
abbrev pub usage : List ℕ
usage = line (codes "usage: gql_program answer | check | selftest N")

-- more bytes than the limit are told to be left
abbrev pub IsLong : Option (List ℕ) → Type 0
IsLong left = IsSomeAnd left (λ bytes. INPUT_LIMIT < length bytes)

-- what is read for a task: for a request all that the source has, and else nothing
abbrev pub ReadsFor : Task → (left left' : Option (List ℕ)) → List ℕ → Type 0
ReadsFor (Request wish) left left' bytes = ReadsWhole left left' bytes
ReadsFor (SelfTest items) left left' bytes = bytes ≡ []

-- what the words ask for was read, and a text that has this meaning for it was written whole
pub record Writes (Meaning : Task → List ℕ → List ℕ → Type 0) (words : List (List ℕ))
    (left left' : Option (List ℕ)) (taken taken' : Option Told) : Type 0 where
  pub task : Task
  pub asks : Asks words task
  pub bytes : List ℕ
  pub text : List ℕ
  pub read : ReadsFor task left left' bytes
  pub means : Meaning task bytes text
  pub wrote : Takes taken taken' text

-- what the words ask for was read, and a text that has one of these meanings for it was written only in part
pub record BreaksOff (Done Refused : Task → List ℕ → List ℕ → Type 0) (words : List (List ℕ))
    (left left' : Option (List ℕ)) (taken taken' : Option Told) : Type 0 where
  pub task : Task
  pub asks : Asks words task
  pub bytes : List ℕ
  pub text : List ℕ
  pub read : ReadsFor task left left' bytes
  pub means : Done task bytes text ⊎ Refused task bytes text
  pub wrote : TakesFront taken taken' text

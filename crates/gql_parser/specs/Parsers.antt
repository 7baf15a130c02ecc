-- What contracts see of a parser, and of a file that is given to it.
use Rattle.std.specs.Prelude.{ℕ, List, [], ◌∷◌, None}
use Rattle.gql_source.specs.File.{Files}
use Rattle.gql_source.specs.declared.file_id.FileId.{FileId}
use Rattle.gql_cst.specs.declared.limits.Limits.{Limits}

-- its limits, and how far the last text was read
pub record ParserState : Type 0 where
  pub limits : Limits
  pub recursion_reached : ℕ
  pub tokens_reached : ℕ

-- 500 levels, any number of tokens, and no text read yet
abbrev pub fresh : ParserState
fresh = record { limits = record { recursion = 500; tokens = None }; recursion_reached = 0; tokens_reached = 0 }

-- a text, with the number and the path of its file
pub record Given : Type 0 where
  pub file : FileId
  pub path : List ℕ
  pub text : List ℕ

abbrev pub given : FileId → List ℕ → List ℕ → Given
given file path text = record { file = file; path = path; text = text }

-- the same, where this number is the next
abbrev pub given_next : ℕ → List ℕ → List ℕ → Given
given_next next path text = given (record { number = next }) path text

-- that file alone
abbrev pub its_file : Given → Files
its_file given = (given.file, record { path = given.path; source_text = given.text }) ∷ []

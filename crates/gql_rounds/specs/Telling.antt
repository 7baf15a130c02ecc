-- Rounds of answers.
use Rattle.std.specs.Prelude.{◌≡◌, ◌<◌, ◌⊎◌, ℕ, true, List, []}
use Rattle.std.specs.List.{AllByRecursion}
use Rattle.std.specs.Map.{lookup}
use Rattle.std.specs.Str.{bytes_eq}
use Rattle.gql_document_types.specs.declared.document.ExecutableDocument.{ExecutableDocument}
use Rattle.gql_document_types.specs.declared.selection.Selection.{Selection}
use Rattle.gql_exec.specs.Request.{Members}
use Rattle.gql_schema_types.specs.declared.schema.Schema.{Schema}
use Rattle.gql_schema_types.specs.declared.types.ObjectType.{ObjectType}
use Rattle.gql_rounds.specs.Asked.{AreAsked, IsOneOf, wanted_on}
use Rattle.gql_rounds.specs.Table.{Table, has_key}
use Rattle.gql_rounds.specs.Wanted.{key_of, request_by_table}
use Rattle.gql_rounds.specs.declared.ask.Ask.{Ask}

-- what the one table tells, the other tells too
abbrev pub TellsMore : (old new : Table) → Type 0
TellsMore old new = (key : List ℕ) → has_key key old ≡ true → lookup (bytes_eq key) new ≡ lookup (bytes_eq key) old

-- an operation with its root type and the values of its variables, which answers are told of
pub record Subject : Type 0 where
  pub schema : Schema
  pub document : ExecutableDocument
  pub variables : Members
  pub root : ObjectType
  pub selections : List Selection

module _ (subject : Subject) where
  -- what the objects so many levels below the root ask for that a table does not tell
  abbrev pub lacking : Table → ℕ → List Ask
  lacking table depth = wanted_on (request_by_table subject.schema subject.document subject.variables table) subject.root subject.selections depth

  -- what is asked with a table
  abbrev pub AskedWith : Table → List (List ℕ × Ask) → Type 0
  AskedWith table asks = AreAsked (request_by_table subject.schema subject.document subject.variables table) subject.root subject.selections asks

  -- the objects above this level lack nothing
  abbrev pub LacksNothing : Table → ℕ → Type 0
  LacksNothing table depth = (n : ℕ) → n < depth → lacking table n ≡ []

  -- an ask is told, or it is asked still
  abbrev pub IsToldOrAsked : Table → ℕ → Ask → Type 0
  IsToldOrAsked table depth ask = (has_key (key_of ask) table ≡ true) ⊎ IsOneOf ask (lacking table depth)

  -- the other table tells all that is asked with the one
  pub record IsNextRound (old new : Table) : Type 0 where
    pub more : TellsMore old new
    pub told : (depth : ℕ) → AllByRecursion (λ (ask : Ask). has_key (key_of ask) new ≡ true) (lacking old depth)

-- What ends the reading of a text, and when.
use Rattle.std.specs.Prelude.{◌≡◌, ℕ, ◌+◌, ◌-◌, ◌<◌, ◌≤◌, ◌⊎◌, List, length, drop, Option, Some, None}
use Rattle.std.specs.declared.ops.Range.{Range}
use Rattle.gql_lexer.specs.Lexical.{IsFault}
use Rattle.gql_lexer.specs.declared.error.CstError.{CstError}
use Rattle.gql_lexer.specs.declared.error.CstError.TheVariants.{Syntax, RecursionLimit, TokenLimit}
use Rattle.gql_lexer.specs.declared.error.SyntaxFault.{SyntaxFault}
use Rattle.gql_lexer.specs.declared.error.SyntaxFault.TheVariants.{EndOfText, BadCharacter, OpenString, BadEscape, BadNumber, BadToken}
use Rattle.gql_cst.specs.declared.limits.Limits.{Limits}
use Rattle.gql_cst.specs.Leaves.{Part, word, IsLeaf}

-- a count is within a limit, and a count passes one
abbrev pub IsWithin : Option ℕ → ℕ → Type 0
IsWithin None count = Unit {0}
IsWithin (Some limit) count = count ≤ limit

abbrev pub Passes : Option ℕ → ℕ → Type 0
Passes None count = ⊥
Passes (Some limit) count = limit < count

-- Where a reading stands in a text: how many tokens its tree has, at which place it stands, and how many tokens were
-- read, one that is refused included.
pub record Reached : Type 0 where
  pub text : List ℕ
  pub tokens : ℕ
  pub place : ℕ
  pub read : ℕ

-- a token of the text begins at the place, and has the range
abbrev pub TokenAt : Reached → Range ℕ → Type 0
TokenAt r range = (part : Part) × IsLeaf r.text r.place (record { part = part; start = range.start; end = range.end })

-- so does one that the grammar does not ignore
abbrev pub WordAt : Reached → Range ℕ → Type 0
WordAt r range = IsLeaf r.text r.place (record { part = word; start = range.start; end = range.end })

-- the text ends at the place
abbrev pub EndAt : Reached → Range ℕ → Type 0
EndAt r range = (r.place ≡ length r.text) × (range.start ≡ r.place) × (range.end ≡ r.place)

-- no token begins at the place, but a fault stands there
pub record FaultAt (fault : SyntaxFault) (r : Reached) (range : Range ℕ) : Type 0 where
  pub stands : IsFault fault (drop r.place r.text) (range.start - r.place) (range.end - r.place)
  pub some : r.place < length r.text
  pub behind : r.place ≤ range.start
  pub ordered : range.start ≤ range.end
  pub read : r.read ≡ r.tokens

-- what the fault is, and where
abbrev pub Faults : SyntaxFault → Reached → Range ℕ → Type 0
Faults EndOfText r range = EndAt r range × (r.read ≡ r.tokens)
Faults BadToken r range = WordAt r range × (r.read ≡ r.tokens + 1)
Faults BadCharacter r range = FaultAt BadCharacter r range
Faults OpenString r range = FaultAt OpenString r range
Faults BadEscape r range = FaultAt BadEscape r range
Faults BadNumber r range = FaultAt BadNumber r range

-- The reading ends there by the error. The limit on levels is told at the next token that is not ignored, or at the
-- end, and the limit on tokens at the first token that passes it.
abbrev pub StopsBy : Limits → Reached → CstError → Type 0
StopsBy limits r (Syntax fault range) = Faults fault r range × IsWithin limits.tokens r.read
StopsBy limits r (RecursionLimit range) =
    ((EndAt r range × (r.read ≡ r.tokens)) ⊎ (WordAt r range × (r.read ≡ r.tokens + 1))) × IsWithin limits.tokens r.read
StopsBy limits r (TokenLimit range) = TokenAt r range × (r.read ≡ r.tokens + 1) × IsWithin limits.tokens r.tokens × Passes limits.tokens r.read

-- the reading ends there, with an error or with the text
abbrev pub Stops : Limits → Reached → Option CstError → Type 0
Stops limits r None = (r.place ≡ length r.text) × (r.read ≡ r.tokens) × IsWithin limits.tokens r.read
Stops limits r (Some error) = StopsBy limits r error

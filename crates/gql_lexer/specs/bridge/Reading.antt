-- A text that is being cut into tokens, and one step of that.
use Rattle.std.specs.Prelude.{◌≡◌, ℕ, ◌-◌, ◌<◌, ◌≤◌, List, length, drop}
use Rattle.std.specs.Str.{IsCharBoundary}
use Rattle.std.specs.declared.ops.Range.{Range}
use Rattle.gql_lexer.specs.Lexical.{IsToken, IsFault}
use Rattle.gql_lexer.specs.declared.error.CstError.{CstError}
use Rattle.gql_lexer.specs.declared.error.CstError.TheVariants.{Syntax, RecursionLimit, TokenLimit}
use Rattle.gql_lexer.specs.declared.error.SyntaxFault.{SyntaxFault}
use Rattle.gql_lexer.specs.declared.token.Token.{Token}

-- a text, and the place up to which it was read
pub record Reading : Type 0 where
  pub text : List ℕ
  pub place : ℕ

-- what is left of the text
abbrev pub rest : Reading → List ℕ
rest r = drop r.place r.text

-- the token stands at the place, and the next place is its end
pub record ReadsToken (old new : Reading) (found : Token) : Type 0 where
  pub token : IsToken found.kind (rest old) (found.range.end - found.range.start)
  pub starts : found.range.start ≡ old.place
  pub ends : found.range.end ≡ new.place
  pub further : old.place < new.place
  pub starts_character : IsCharBoundary old.text old.place
  pub ends_character : IsCharBoundary old.text new.place
  pub text : new.text ≡ old.text

-- the fault stands at the place, and nothing is read behind it
pub record ReadsFault (old new : Reading) (fault : SyntaxFault) (range : Range ℕ) : Type 0 where
  pub stands : IsFault fault (rest old) (range.start - old.place) (range.end - old.place)
  pub behind : old.place ≤ range.start
  pub ordered : range.start ≤ range.end
  pub starts_character : IsCharBoundary old.text range.start
  pub ends_character : IsCharBoundary old.text range.end
  pub stops : new.place ≡ length old.text
  pub text : new.text ≡ old.text

-- only faults of the text are met
abbrev pub ReadsError : Reading → Reading → CstError → Type 0
ReadsError old new (Syntax fault range) = ReadsFault old new fault range
ReadsError old new (RecursionLimit range) = ⊥
ReadsError old new (TokenLimit range) = ⊥

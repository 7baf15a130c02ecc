-- How many levels of nesting stand around the words of a sentence.
use Rattle.std.specs.Prelude.{◌≡◌, ℕ, ◌+◌, ◌≤◌, ◌⊎◌, max, List, [], ◌∷◌, ◌++◌, length, take, Option, Some, None}
use Rattle.gql_lexer.specs.declared.error.CstError.{CstError}
use Rattle.gql_lexer.specs.declared.error.CstError.TheVariants.{Syntax, RecursionLimit, TokenLimit}
use Rattle.gql_lexer.specs.declared.error.SyntaxFault.TheVariants.{EndOfText, BadCharacter, OpenString, BadEscape, BadNumber, BadToken}
use Rattle.gql_grammar.specs.declared.word.Word.{Word}
use Rattle.gql_grammar.specs.declared.rule.Rule.{Rule}
use Rattle.gql_grammar.specs.Reads.{Sentence}
use Rattle.gql_grammar.specs.Row as row
use Rattle.gql_grammar.specs.Row.{Row, level}

-- each of the numbers, so much greater
abbrev pub raised : ℕ → List ℕ → List ℕ
raised by [] = []
raised by (n ∷ ns) = (by + n) ∷ raised by ns

-- The levels around each word of a row, from left to right. The bracket that opens a level stands in it.
abbrev pub levels : Row → List ℕ
levels row.nothing = []
levels (row.leaf w x) = 0 ∷ levels x
levels (row.node kind inner x) = raised (level kind) (levels inner) ++ levels x

abbrev pub greatest : List ℕ → ℕ
greatest [] = 0
greatest (n ∷ ns) = max n (greatest ns)

-- in each sentence that begins with the words, these are the levels around them
abbrev pub AreLevels : Rule → List Word → List ℕ → Type 0
AreLevels start words around =
    (more : List Word) (tree : Row) → Sentence start (words ++ more) tree → take (length words) (levels tree) ≡ around

-- the last word, and no word before it, stands in a level past the limit: the next one
pub record PassesLast (limit : ℕ) (around : List ℕ) : Type 0 where
  pub before : List ℕ
  pub last : around ≡ before ++ ((limit + 1) ∷ [])
  pub within : greatest before ≤ limit

-- no word does, or the last one alone
abbrev pub PassesNoneBeforeLast : ℕ → List ℕ → Type 0
PassesNoneBeforeLast limit around = (greatest around ≤ limit) ⊎ PassesLast limit around

-- The levels around the words that were taken, where the reading ends by the error or with the text. The word behind the
-- one that passes the limit is read and not judged: so a fault in place of that word, or too many tokens, comes first.
abbrev pub NestsTo : ℕ → List ℕ → Option CstError → Type 0
NestsTo limit around None = greatest around ≤ limit
NestsTo limit around (Some (Syntax EndOfText range)) = greatest around ≤ limit
NestsTo limit around (Some (Syntax BadToken range)) = greatest around ≤ limit
NestsTo limit around (Some (Syntax BadCharacter range)) = PassesNoneBeforeLast limit around
NestsTo limit around (Some (Syntax OpenString range)) = PassesNoneBeforeLast limit around
NestsTo limit around (Some (Syntax BadEscape range)) = PassesNoneBeforeLast limit around
NestsTo limit around (Some (Syntax BadNumber range)) = PassesNoneBeforeLast limit around
NestsTo limit around (Some (RecursionLimit range)) = PassesLast limit around
NestsTo limit around (Some (TokenLimit range)) = PassesNoneBeforeLast limit around

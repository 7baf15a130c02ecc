-- What an error, or none, tells of the sentences of the grammar.
use Rattle.std.specs.Prelude.{◌≡◌, ℕ, ◌<◌, List, [], ◌∷◌, ◌++◌, slice_range, Option, Some, None}
use Rattle.std.specs.declared.ops.Range.{Range}
use Rattle.gql_lexer.specs.declared.error.CstError.{CstError}
use Rattle.gql_lexer.specs.declared.error.CstError.TheVariants.{Syntax, RecursionLimit, TokenLimit}
use Rattle.gql_lexer.specs.declared.error.SyntaxFault.{SyntaxFault}
use Rattle.gql_lexer.specs.declared.error.SyntaxFault.TheVariants.{EndOfText, BadCharacter, OpenString, BadEscape, BadNumber, BadToken}
use Rattle.gql_grammar.specs.declared.word.Word.{Word}
use Rattle.gql_grammar.specs.declared.rule.Rule.{Rule}
use Rattle.gql_grammar.specs.Reads.{Sentence, IsBeginning}
use Rattle.gql_grammar.specs.Row as row
use Rattle.gql_grammar.specs.Row.{Row}
use Rattle.gql_cst.specs.Sentences.{words}
use Rattle.gql_cst.specs.Words.{word_of}

-- A text was read as far as these words, and the tree of them is this row. So many levels of nesting are allowed.
pub record Spoken : Type 0 where
  pub start : Rule
  pub text : List ℕ
  pub words : List Word
  pub row : Row
  pub recursion : ℕ

-- the word of the token in the range
abbrev pub word_in : List ℕ → Range ℕ → Word
word_in text range = word_of (slice_range text range.start range.end)

abbrev pub Tells : SyntaxFault → Spoken → Range ℕ → Type 0
Tells EndOfText s range = (other : Row) → Sentence s.start s.words other → ⊥
Tells BadToken s range = IsBeginning s.start (s.words ++ (word_in s.text range ∷ [])) → ⊥
Tells BadCharacter s range = Unit {0}
Tells OpenString s range = Unit {0}
Tells BadEscape s range = Unit {0}
Tells BadNumber s range = Unit {0}

-- Without an error the words are a sentence, and this is its one tree. A text that ends too early is no sentence, and no
-- sentence begins with the words and one that is refused. Past the limit on levels is every sentence that goes on.
abbrev pub Judged : Spoken → Option CstError → Type 0
Judged s None = Sentence s.start s.words s.row × ((other : Row) → Sentence s.start s.words other → other ≡ s.row)
Judged s (Some (Syntax fault range)) = Tells fault s range
Judged s (Some (RecursionLimit range)) = (more : List Word) (other : Row) → Sentence s.start (s.words ++ more) other → s.recursion < row.nesting other
Judged s (Some (TokenLimit range)) = Unit {0}

-- Sentences, and their trees.
use Rattle.std.specs.Prelude.{◌≡◌, Bool, true, false, List, [], ◌∷◌, ◌++◌, Some, None}
use Rattle.gql_grammar.specs.declared.word.Word.{Word}
use Rattle.gql_grammar.specs.declared.word.Word.TheVariants.{BraceOpen}
use Rattle.gql_grammar.specs.declared.symbol.Terminal.{Terminal}
use Rattle.gql_grammar.specs.declared.symbol.Symbol.{Symbol}
use Rattle.gql_grammar.specs.declared.symbol.Symbol.TheVariants.{Token, One, Optional, Repeated, Eager}
use Rattle.gql_grammar.specs.declared.rule.Rule.{Rule}
use Rattle.gql_grammar.specs.declared.syntax_kind.SyntaxKind.{SyntaxKind}
use Rattle.gql_grammar.specs.Word.{takes, is_same}
use Rattle.gql_grammar.specs.Rule.{kind_of}
use Rattle.gql_grammar.specs.Grammar.{declared}
use Rattle.gql_grammar.specs.Row.{Row, nothing, leaf, node}

-- the way to write a rule is one of these
pub data IsOneOf (way : List Symbol) : List (List Symbol) → Type 0 where
  here : {ways : List (List Symbol)} → IsOneOf way (way ∷ ways)
  there : {other : List Symbol} {ways : List (List Symbol)} → IsOneOf way ways → IsOneOf way (other ∷ ways)

-- the next word is `{`
abbrev pub is_brace_next : List Word → Bool
is_brace_next [] = false
is_brace_next (w ∷ ws) = is_same BraceOpen w

-- `Fits ss ws row vs`: at the front of the words `ws` the symbols `ss` stand for the trees of `row`, and the words `vs`
-- come behind them.
pub data Fits : List Symbol → List Word → Row → List Word → Type 0 where
  done : {vs : List Word} → Fits [] vs nothing vs
  token : {ss : List Symbol} {ws vs : List Word} {row : Row} (t : Terminal) (w : Word)
      → takes t w ≡ true → Fits ss ws row vs → Fits (Token t ∷ ss) (w ∷ ws) (leaf w row) vs
  -- a rule stands for a node
  tree : {ss : List Symbol} {ws us vs : List Word} {inner row : Row} (r : Rule) (k : SyntaxKind) (way : List Symbol)
      → kind_of r ≡ Some k → IsOneOf way (declared r) → Fits way ws inner us → Fits ss us row vs → Fits (One r ∷ ss) ws (node k inner row) vs
  -- or it is a group, and stands for its parts
  group : {ss : List Symbol} {ws vs : List Word} {row : Row} (r : Rule) (way : List Symbol)
      → kind_of r ≡ None → IsOneOf way (declared r) → Fits (way ++ ss) ws row vs → Fits (One r ∷ ss) ws row vs
  skip : {ss : List Symbol} {ws vs : List Word} {row : Row} (r : Rule) → Fits ss ws row vs → Fits (Optional r ∷ ss) ws row vs
  take : {ss : List Symbol} {ws vs : List Word} {row : Row} (r : Rule) → Fits (One r ∷ ss) ws row vs → Fits (Optional r ∷ ss) ws row vs
  stop : {ss : List Symbol} {ws vs : List Word} {row : Row} (r : Rule) → Fits ss ws row vs → Fits (Repeated r ∷ ss) ws row vs
  again : {ss : List Symbol} {ws vs : List Word} {row : Row} (r : Rule) → Fits (One r ∷ Repeated r ∷ ss) ws row vs → Fits (Repeated r ∷ ss) ws row vs
  -- it is left out only where no `{` follows
  leave : {ss : List Symbol} {ws vs : List Word} {row : Row} (r : Rule) → is_brace_next ws ≡ false → Fits ss ws row vs → Fits (Eager r ∷ ss) ws row vs
  enter : {ss : List Symbol} {ws vs : List Word} {row : Row} (r : Rule) → Fits (One r ∷ ss) ws row vs → Fits (Eager r ∷ ss) ws row vs

-- the words are a sentence of the start, and this is its tree
abbrev pub Sentence : Rule → List Word → Row → Type 0
Sentence start ws row = Fits (One start ∷ []) ws row []

-- some sentence of the start begins with the words
abbrev pub IsBeginning : Rule → List Word → Type 0
IsBeginning start ws = (more : List Word) × (row : Row) × Sentence start (ws ++ more) row

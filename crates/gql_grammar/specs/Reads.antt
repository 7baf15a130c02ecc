-- What the symbols of a grammar make of words, from the left, with the row that is open.
use Rattle.std.specs.Prelude.{◌≡◌, true, false, List, [], ◌∷◌, Some, None}
use Rattle.gql_grammar.specs.declared.word.Word.{Word}
use Rattle.gql_grammar.specs.declared.symbol.Symbol.{Symbol}
use Rattle.gql_grammar.specs.declared.symbol.Terminal.{Terminal}
use Rattle.gql_grammar.specs.declared.symbol.Symbol.TheVariants.{Token, One, Optional, Repeated, Eager, Wrap}
use Rattle.gql_grammar.specs.declared.rule.Rule.{Rule}
use Rattle.gql_grammar.specs.declared.syntax_kind.SyntaxKind.{SyntaxKind}
use Rattle.gql_grammar.specs.Word.{takes}
use Rattle.gql_grammar.specs.Rule.{kind_of}
use Rattle.gql_grammar.specs.Grammar.{Grammar}
pub use Rattle.gql_grammar.specs.Sentence.{IsOneOf, here, there, is_brace_next, Sentence, IsBeginning}
use Rattle.gql_grammar.specs.Row.{Row, nothing, with_leaf, node, with_node}

-- `Reads g ss x ws y vs`: the symbols `ss`, read at the front of the words `ws` by the grammar `g`, make of the open
-- row `x` the row `y`, and leave the words `vs`.
pub data Reads (g : Grammar) : List Symbol → Row → List Word → Row → List Word → Type 0 where
  done : {x : Row} {ws : List Word} → Reads g [] x ws x ws
  token : {ss : List Symbol} {x y : Row} {ws vs : List Word} (t : Terminal) (w : Word) → takes t w ≡ true
      → Reads g ss (with_leaf x w) ws y vs → Reads g (Token t ∷ ss) x (w ∷ ws) y vs
  -- a rule makes a node
  tree : {ss : List Symbol} {x y : Row} {ws us vs : List Word} (r : Rule) (k : SyntaxKind) (way : List Symbol) (inner : Row)
      → kind_of r ≡ Some k → IsOneOf way (g r) → Reads g way nothing ws inner us
      → Reads g ss (with_node x k inner) us y vs → Reads g (One r ∷ ss) x ws y vs
  -- or it is a group, which makes none
  group : {ss : List Symbol} {x z y : Row} {ws us vs : List Word} (r : Rule) (way : List Symbol)
      → kind_of r ≡ None → IsOneOf way (g r) → Reads g way x ws z us
      → Reads g ss z us y vs → Reads g (One r ∷ ss) x ws y vs
  skip : {ss : List Symbol} {x y : Row} {ws vs : List Word} (r : Rule) → Reads g ss x ws y vs → Reads g (Optional r ∷ ss) x ws y vs
  take : {ss : List Symbol} {x z y : Row} {ws us vs : List Word} (r : Rule) → Reads g (One r ∷ []) x ws z us
      → Reads g ss z us y vs → Reads g (Optional r ∷ ss) x ws y vs
  stop : {ss : List Symbol} {x y : Row} {ws vs : List Word} (r : Rule) → Reads g ss x ws y vs → Reads g (Repeated r ∷ ss) x ws y vs
  again : {ss : List Symbol} {x z y : Row} {ws us vs : List Word} (r : Rule) → Reads g (One r ∷ []) x ws z us
      → Reads g (Repeated r ∷ ss) z us y vs → Reads g (Repeated r ∷ ss) x ws y vs
  -- only where no `{` follows is it left out
  leave : {ss : List Symbol} {x y : Row} {ws vs : List Word} (r : Rule) → is_brace_next ws ≡ false
      → Reads g ss x ws y vs → Reads g (Eager r ∷ ss) x ws y vs
  enter : {ss : List Symbol} {x z y : Row} {ws us vs : List Word} (r : Rule) → Reads g (One r ∷ []) x ws z us
      → Reads g ss z us y vs → Reads g (Eager r ∷ ss) x ws y vs
  -- what the open row holds becomes one node
  wrap : {ss : List Symbol} {x y : Row} {ws vs : List Word} (k : SyntaxKind)
      → Reads g ss (node k x nothing) ws y vs → Reads g (Wrap k ∷ ss) x ws y vs

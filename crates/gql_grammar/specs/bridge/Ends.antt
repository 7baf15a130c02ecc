-- What a stack of symbols can still make of the words to come.
use Rattle.std.specs.Prelude.{ℕ, ◌+◌, List, [], ◌∷◌}
use Rattle.gql_grammar.specs.declared.word.Word.{Word}
use Rattle.gql_grammar.specs.declared.symbol.Symbol.{Symbol}
use Rattle.gql_grammar.specs.declared.symbol.Symbol.TheVariants.{Token, One, Optional, Repeated, Eager, Wrap, Close}
use Rattle.gql_grammar.specs.declared.syntax_kind.SyntaxKind.{SyntaxKind}
use Rattle.gql_grammar.specs.Factored.{factored}
use Rattle.gql_grammar.specs.Row.{Row, with_node}
use Rattle.gql_grammar.specs.Reads.{Reads}

-- `Ends ss x rows ws out`: the symbols `ss`, read at the words `ws` to their end, make the row `out`, where `x` is the
-- open row and `rows` are the rows of the nodes around it, from the inside out.
pub data Ends : List Symbol → Row → List Row → List Word → Row → Type 0 where
  end : {x : Row} → Ends [] x [] [] x
  symbol : {s : Symbol} {ss : List Symbol} {x z : Row} {rows : List Row} {ws us : List Word} {out : Row}
      → Reads factored (s ∷ []) x ws z us → Ends ss z rows us out → Ends (s ∷ ss) x rows ws out
  -- the open node ends, and stands last in the row around it
  close : {ss : List Symbol} {x inner : Row} {rows : List Row} {ws : List Word} {out : Row} (k : SyntaxKind)
      → Ends ss (with_node x k inner) rows ws out → Ends (Close k ∷ ss) inner (x ∷ rows) ws out

-- how many nodes the symbols end
abbrev pub closes : List Symbol → ℕ
closes [] = 0
closes (Token t ∷ ss) = closes ss
closes (One r ∷ ss) = closes ss
closes (Optional r ∷ ss) = closes ss
closes (Repeated r ∷ ss) = closes ss
closes (Eager r ∷ ss) = closes ss
closes (Wrap k ∷ ss) = closes ss
closes (Close k ∷ ss) = closes ss + 1

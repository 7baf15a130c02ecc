-- Where the reading of a sentence stands.
use Rattle.std.specs.Prelude.{◌≡◌, true, List, [], ◌∷◌, ◌++◌, length, Option, Some, None, is_some}
use Rattle.gql_grammar.specs.declared.word.Word.{Word}
use Rattle.gql_grammar.specs.declared.symbol.Symbol.{Symbol}
use Rattle.gql_grammar.specs.declared.symbol.Symbol.TheVariants.{One, Close}
use Rattle.gql_grammar.specs.declared.rule.Rule.{Rule}
use Rattle.gql_grammar.specs.declared.syntax_kind.SyntaxKind.{SyntaxKind}
use Rattle.gql_grammar.specs.Rule.{kind_of}
use Rattle.gql_grammar.specs.Row.{Row, nothing}
use Rattle.gql_grammar.specs.Reads.{IsBeginning}
use Rattle.gql_grammar.specs.Starts.{nowhere, way}
use Rattle.gql_grammar.specs.bridge.Decided.{IsDecided}
use Rattle.gql_grammar.specs.bridge.Ends.{Ends, closes}

-- the words from the next one on, where `ws` come behind it. None: the text ends
abbrev pub ahead : Option Word → List Word → List Word
ahead None ws = []
ahead (Some w) ws = w ∷ ws

-- the way to write the rule at the next word
abbrev pub way_at : Rule → Option Word → Option (List Symbol)
way_at r None = None
way_at r (Some w) = way r w

-- all words as a sentence of the start
abbrev pub EndsFrom : Rule → List Word → Row → Type 0
EndsFrom start ws out = Ends (One start ∷ []) nothing [] ws out

-- between two words: the state makes of all words to come what the start makes of those words behind the ones before
pub record Between (start : Rule) (before : List Word) (ss : List Symbol) (x : Row) (rows : List Row) : Type 0 where
  pub makes_node : is_some (kind_of start) ≡ true
  pub decided : IsDecided nowhere ss
  pub balanced : closes ss ≡ length rows
  pub onward : (ws : List Word) (out : Row) → EndsFrom start (before ++ ws) out → Ends ss x rows ws out
  pub back : (ws : List Word) (out : Row) → Ends ss x rows ws out → EndsFrom start (before ++ ws) out

-- with the next word in sight: the same, of the words that begin with it
pub record Stands (start : Rule) (before : List Word) (next : Option Word) (ss : List Symbol) (x : Row) (rows : List Row) : Type 0 where
  pub makes_node : is_some (kind_of start) ≡ true
  pub decided : IsDecided nowhere ss
  pub balanced : closes ss ≡ length rows
  pub begun : IsBeginning start before
  pub onward : (ws : List Word) (out : Row) → EndsFrom start (before ++ ahead next ws) out → Ends ss x rows (ahead next ws) out
  pub back : (ws : List Word) (out : Row) → Ends ss x rows (ahead next ws) out → EndsFrom start (before ++ ahead next ws) out

-- ---- the same for a reader whose outermost node, of this kind, is open from the start: neither its end is on the
-- stack, nor the row around it among the rows

abbrev pub rooted : SyntaxKind → List Symbol → List Symbol
rooted k ss = ss ++ (Close k ∷ [])

abbrev pub around : List Row → List Row
around rows = rows ++ (nothing ∷ [])

pub record BetweenIn (start : Rule) (k : SyntaxKind) (before : List Word) (ss : List Symbol) (x : Row) (rows : List Row) : Type 0 where
  pub between : Between start before (rooted k ss) x (around rows)

pub record StandsIn (start : Rule) (k : SyntaxKind) (before : List Word) (next : Option Word) (ss : List Symbol) (x : Row) (rows : List Row) : Type 0 where
  pub stands : Stands start before next (rooted k ss) x (around rows)

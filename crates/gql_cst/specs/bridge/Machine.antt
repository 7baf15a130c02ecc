-- The machine that reads words by the grammar: what it holds, and one turn of it.
use Rattle.std.specs.Prelude.{◌≡◌, ℕ, ◌+◌, ◌-◌, max, List, [], ◌∷◌, ◌++◌, length}
use Rattle.std.specs.Prelude.{Bool, true, false, Option, Some, None, if◌then◌else◌}
use Rattle.std.specs.List.{slice_get}
use Rattle.std.specs.Option.{option_map_or}
use Rattle.gql_grammar.specs.declared.rule.Rule.{Rule}
use Rattle.gql_grammar.specs.declared.symbol.Symbol.{Symbol}
use Rattle.gql_grammar.specs.declared.symbol.Symbol.TheVariants.{Token, One, Optional, Repeated, Eager, Wrap, Close}
use Rattle.gql_grammar.specs.declared.symbol.Terminal.{Terminal}
use Rattle.gql_grammar.specs.declared.syntax_kind.SyntaxKind.{SyntaxKind}
use Rattle.gql_grammar.specs.declared.word.Word.{Word}
use Rattle.gql_grammar.specs.Word.{takes}
use Rattle.gql_grammar.specs.bridge.Stands.{way_at}
use Rattle.gql_grammar.specs.Rule.{kind_of}
use Rattle.gql_grammar.specs.Row.{level}
use Rattle.gql_cst.specs.declared.turn.Turn.{Turn}
use Rattle.gql_cst.specs.declared.turn.Turn.TheVariants as turn
use Rattle.gql_cst.specs.Forest.{Plain, row_of}

-- The symbols to come, the next one first; the trees of the innermost open node; those of the nodes around it, from
-- inside out; how many levels are open; and how many were, at most.
pub record State : Type 0 where
  pub stack : List Symbol
  pub row : List Plain
  pub rows : List (List Plain)
  pub level : ℕ
  pub deepest : ℕ

-- a node from the start of its first child to the end of its last
abbrev pub node_of : SyntaxKind → List Plain → Plain
node_of kind row = record {
  kind = kind;
  start = option_map_or (λ t. t.start) (slice_get row 0) 0;
  end = option_map_or (λ t. t.end) (slice_get row (length row - 1)) 0;
  children = row_of row;
}

pub data Turned : Type 0 where
  again : State → Turned
  taken : State → Turned
  refused : State → Turned
  finished : State → Turned

abbrev pub opened : SyntaxKind → State → State
opened kind s = record {
  stack = Close kind ∷ s.stack;
  row = [];
  rows = s.row ∷ s.rows;
  level = s.level + level kind;
  deepest = max s.deepest (s.level + level kind);
}

abbrev pub pushed : List Symbol → State → State
pushed way s = record s { stack = way ++ s.stack }

-- a rule's symbols come next, and then what closes its node, unless the rule makes none
abbrev pub entered : Option SyntaxKind → List Symbol → State → State
entered (Some kind) way s = pushed way (opened kind s)
entered None way s = pushed way s

abbrev pub wrapped : SyntaxKind → State → State
wrapped kind s = record s { row = node_of kind s.row ∷ [] }

-- the innermost node is complete, and stands last in the node around it
abbrev pub closed_in : SyntaxKind → List (List Plain) → State → State
closed_in kind [] s = record s { row = node_of kind s.row ∷ []; rows = []; level = s.level - level kind }
closed_in kind (outer ∷ rows) s = record s { row = outer ++ (node_of kind s.row ∷ []); rows = rows; level = s.level - level kind }

abbrev pub closed : SyntaxKind → State → State
closed kind s = closed_in kind s.rows s

abbrev pub enter : Option (List Symbol) → Option SyntaxKind → State → Turned → Turned
enter (Some way) kind s otherwise = again (entered kind way s)
enter None kind s otherwise = otherwise

abbrev pub takes_at : Terminal → Option Word → Bool
takes_at terminal (Some word) = takes terminal word
takes_at terminal None = false

-- what a symbol comes to, once it is off the stack
abbrev pub turned_by : Option Word → Symbol → State → Turned
turned_by next (Token terminal) s = if takes_at terminal next then taken s else refused s
turned_by next (One rule) s = enter (way_at rule next) (kind_of rule) s (refused s)
turned_by next (Optional rule) s = enter (way_at rule next) (kind_of rule) s (again s)
turned_by next (Eager rule) s = enter (way_at rule next) (kind_of rule) s (again s)
turned_by next (Repeated rule) s = enter (way_at rule next) (kind_of rule) (record s { stack = Repeated rule ∷ s.stack }) (again s)
turned_by next (Wrap kind) s = again (wrapped kind s)
turned_by next (Close kind) s = again (closed kind s)

abbrev pub turned_at : Option Word → List Symbol → State → Turned
turned_at next [] s = finished s
turned_at next (symbol ∷ stack) s = turned_by next symbol (record s { stack = stack })

-- one turn, with the next word in sight, if there is one
abbrev pub turned : Option Word → State → Turned
turned next s = turned_at next s.stack s

-- what the code tells of a turn
abbrev pub told : Turn → State → Turned
told turn.Again s = again s
told turn.Taken s = taken s
told turn.Refused s = refused s
told turn.Finished s = finished s

-- turns one after the other come to this, which is no further turn
pub data Settles (next : Option Word) : State → Turned → Type 0 where
  takes_it : {s new : State} → turned next s ≡ taken new → Settles next s (taken new)
  refuses_it : {s new : State} → turned next s ≡ refused new → Settles next s (refused new)
  finishes : {s new : State} → turned next s ≡ finished new → Settles next s (finished new)
  later : {s new : State} {end : Turned} → turned next s ≡ again new → Settles next new end → Settles next s end

-- the rule of the whole text begins, whose node is not told apart from the row around it
abbrev pub Begins : Option (List Symbol) → Option Word → State → Turned → Type 0
Begins (Some way) next s end = Settles next (pushed way s) end
Begins None next s end = end ≡ refused s

-- a word, or the end of the text, is judged. The rule of the whole text may have begun
abbrev pub Judges : Rule → Option Word → Bool → State → Turned → Type 0
Judges start next true s end = Settles next s end
Judges start next false s end = Begins (way_at start next) next s end

-- the row of trees, once all nodes that are open have ended there
abbrev pub ended : List Symbol → List Plain → List (List Plain) → List Plain
ended [] row rows = row
ended (Close kind ∷ stack) row [] = ended stack (node_of kind row ∷ []) []
ended (Close kind ∷ stack) row (outer ∷ rows) = ended stack (outer ++ (node_of kind row ∷ [])) rows
ended (Token terminal ∷ stack) row rows = ended stack row rows
ended (One rule ∷ stack) row rows = ended stack row rows
ended (Optional rule ∷ stack) row rows = ended stack row rows
ended (Eager rule ∷ stack) row rows = ended stack row rows
ended (Repeated rule ∷ stack) row rows = ended stack row rows
ended (Wrap kind ∷ stack) row rows = ended stack row rows

abbrev pub all_ended : State → List Plain
all_ended s = ended s.stack s.row s.rows

-- more trees stand in the innermost node
abbrev pub grown : List Plain → State → State
grown trees s = record s { row = s.row ++ trees }

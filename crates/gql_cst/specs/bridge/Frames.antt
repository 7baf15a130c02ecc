-- Rules that are open, from inside out: the symbols that are to come in them, and the nodes that began.
use Rattle.std.specs.Prelude.{◌≡◌, Bool, true, false, ◌&&◌, ◌==◌, List, [], ◌∷◌, ◌++◌, Option, Some, None}
use Rattle.std.specs.List.{list_all}
use Rattle.gql_grammar.specs.declared.symbol.Symbol.{Symbol}
use Rattle.gql_grammar.specs.declared.symbol.Symbol.TheVariants.{Token, One, Optional, Repeated, Eager, Wrap, Close}
use Rattle.gql_grammar.specs.declared.syntax_kind.SyntaxKind.{SyntaxKind}
use Rattle.gql_grammar.specs.declared.word.Word.{Word}
use Rattle.gql_grammar.specs.Row.{level}
use Rattle.gql_grammar.specs.bridge.Stands.{way_at}
use Rattle.gql_cst.specs.declared.frame.Frame.{Frame}
use Rattle.gql_cst.specs.declared.begun.Begun.{Begun}
use Rattle.gql_cst.specs.Late.{is_late}
use Rattle.gql_cst.specs.Leaves.{part_of}
use Rattle.gql_cst.specs.bridge.Open.{Node, whole}
use Rattle.gql_cst.specs.bridge.Sound.{is_node}

-- no node ends there, and what is wrapped is a node that is made late and opens no level
abbrev pub is_loose : Symbol → Bool
is_loose (Close kind) = false
is_loose (Wrap kind) = is_node (part_of kind) && (level kind == 0 && is_late kind)
is_loose (Token terminal) = true
is_loose (One rule) = true
is_loose (Optional rule) = true
is_loose (Eager rule) = true
is_loose (Repeated rule) = true

-- what closes the node of a rule comes behind its symbols, and the symbols of a group stand alone
abbrev pub closing : Option SyntaxKind → List Symbol → List Symbol
closing None stack = stack
closing (Some kind) stack = Close kind ∷ stack

abbrev pub stack_of : List Frame → List Symbol
stack_of [] = []
stack_of (f ∷ frames) = f.way.now ++ closing f.kind (stack_of frames)

-- a rule that makes a node begins one
abbrev pub beginning : Option SyntaxKind → Begun → List Node → List Node
beginning None begun around = around
beginning (Some kind) begun around = record { kind = Some kind; begun = begun } ∷ around

-- the nodes that began, from inside out, the row of the whole text last
abbrev pub nodes_of : List Frame → List Node
nodes_of [] = whole ∷ []
nodes_of (f ∷ frames) = beginning f.kind f.begun (nodes_of frames)

-- the innermost node began there
abbrev pub is_first : Begun → List Node → Bool
is_first begun [] = false
is_first begun (first ∷ around) = begun.mark == first.begun.mark && begun.place == first.begun.place

-- each rule knows the innermost node, its own or the one around it, and no symbol of it closes a node
abbrev pub is_framed : List Frame → Bool
is_framed [] = true
is_framed (f ∷ frames) = is_first f.begun (nodes_of (f ∷ frames)) && list_all is_loose f.way.now && is_framed frames

-- a rule that may come once more does not begin with the next word
abbrev pub Stays : Option Word → Symbol → Type 0
Stays next (Repeated rule) = way_at rule next ≡ None
Stays next (Token terminal) = Unit {0}
Stays next (One rule) = Unit {0}
Stays next (Optional rule) = Unit {0}
Stays next (Eager rule) = Unit {0}
Stays next (Wrap kind) = Unit {0}
Stays next (Close kind) = Unit {0}

-- the same symbols are to come, and the same nodes began
pub record IsSame (old new : List Frame) : Type 0 where
  pub stack : stack_of new ≡ stack_of old
  pub nodes : nodes_of new ≡ nodes_of old
  pub framed : is_framed old ≡ true → is_framed new ≡ true

-- What holds of the machine at each turn.
use Rattle.std.specs.Prelude.{◌≡◌, ℕ, ◌+◌, Bool, true, false, ◌&&◌, ◌==◌, List, [], ◌∷◌}
use Rattle.std.specs.List.{list_all}
use Rattle.gql_grammar.specs.declared.symbol.Symbol.{Symbol}
use Rattle.gql_grammar.specs.declared.symbol.Symbol.TheVariants.{Token, One, Optional, Repeated, Eager, Wrap, Close}
use Rattle.gql_grammar.specs.Row.{level}
use Rattle.gql_cst.specs.Forest.{Plain}
use Rattle.gql_cst.specs.Late.{is_late}
use Rattle.gql_cst.specs.Leaves.{Part, word, ignored, node, part_of}
use Rattle.gql_cst.specs.bridge.Machine.{State, all_ended}
use Rattle.gql_cst.specs.bridge.Nesting.{nesting_of}
use Rattle.gql_cst.specs.Spans.{AllSpanIn}

abbrev pub is_node : Part → Bool
is_node node = true
is_node word = false
is_node ignored = false

-- only nodes are made, and what is wrapped is made late and opens no level
abbrev pub makes_node : Symbol → Bool
makes_node (Close kind) = is_node (part_of kind)
makes_node (Wrap kind) = is_node (part_of kind) && (level kind == 0 && is_late kind)
makes_node (Token terminal) = true
makes_node (One rule) = true
makes_node (Optional rule) = true
makes_node (Eager rule) = true
makes_node (Repeated rule) = true

-- the levels that are still to be closed
abbrev pub depth : List Symbol → ℕ
depth [] = 0
depth (Close kind ∷ stack) = level kind + depth stack
depth (Wrap kind ∷ stack) = depth stack
depth (Token terminal ∷ stack) = depth stack
depth (One rule ∷ stack) = depth stack
depth (Optional rule ∷ stack) = depth stack
depth (Eager rule ∷ stack) = depth stack
depth (Repeated rule ∷ stack) = depth stack

-- the trees of each row reach over what is in them
abbrev pub EachSpan : List (List Plain) → Type 0
EachSpan [] = Unit {0}
EachSpan (row ∷ rows) = AllSpanIn row × EachSpan rows

pub record IsSound (s : State) : Type 0 where
  pub nodes : list_all makes_node s.stack ≡ true
  pub level : s.level ≡ depth s.stack
  pub deepest : s.deepest ≡ nesting_of (all_ended s)
  pub spans : AllSpanIn s.row
  pub outer : EachSpan s.rows

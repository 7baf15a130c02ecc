-- Nodes that their rules allow.
use Rattle.std.specs.Prelude.{◌≡◌, List, Some}
use Rattle.gql_grammar.specs.declared.word.Word.{Word}
use Rattle.gql_grammar.specs.declared.symbol.Symbol.{Symbol}
use Rattle.gql_grammar.specs.declared.rule.Rule.{Rule}
use Rattle.gql_grammar.specs.declared.syntax_kind.SyntaxKind.{SyntaxKind}
use Rattle.gql_grammar.specs.Grammar.{declared}
use Rattle.gql_grammar.specs.Rule.{kind_of}
use Rattle.gql_grammar.specs.Row.{Row, nothing, leaf, node}
use Rattle.gql_grammar.specs.Sentence.{Fits, IsOneOf}

-- a node of this kind may hold the row: a way to write a rule of the kind makes it of some words
pub record IsAllowed (k : SyntaxKind) (inner : Row) : Type 0 where
  pub rule : Rule
  pub way : List Symbol
  pub words : List Word
  pub behind : List Word
  pub of_kind : kind_of rule ≡ Some k
  pub one : IsOneOf way (declared rule)
  pub fits : Fits way words inner behind

-- each node of the row, at any depth, is allowed
abbrev pub AllAllowed : Row → Type 0
AllAllowed nothing = Unit {0}
AllAllowed (leaf w x) = AllAllowed x
AllAllowed (node k inner x) = IsAllowed k inner × (AllAllowed inner × AllAllowed x)

-- The tree of a sentence, cut behind some of its words.
use Rattle.std.specs.Prelude.{◌≡◌, ℕ, Bool, true, false, List, ◌++◌}
use Rattle.gql_grammar.specs.declared.word.Word.{Word}
use Rattle.gql_grammar.specs.declared.rule.Rule.{Rule}
use Rattle.gql_grammar.specs.declared.syntax_kind.SyntaxKind.{SyntaxKind}
use Rattle.gql_grammar.specs.Reads.{Sentence}
use Rattle.gql_grammar.specs.Row as row
use Rattle.gql_grammar.specs.Row.{Row}
use Rattle.gql_cst.specs.Forest.{Plain}
use Rattle.gql_cst.specs.Late.{is_late}
use Rattle.gql_cst.specs.Leaves.{leaves}
use Rattle.gql_cst.specs.Sentences.{root_kind, words, shown}

-- a row holds something
abbrev pub is_filled : Row → Bool
is_filled row.nothing = false
is_filled (row.leaf w x) = true
is_filled (row.node k inner x) = true

-- `Cuts x full`: the row `x` is what is left of the row `full`, once it is cut behind the last word of `x`.
pub data Cuts : Row → Row → Type 0 where
  -- what stands behind the cut is not there
  behind : {full : Row} → Cuts row.nothing full
  leaf : {x full : Row} (w : Word) → Cuts x full → Cuts (row.leaf w x) (row.leaf w full)
  -- a node before the cut is there as it is
  before : {x full : Row} (k : SyntaxKind) (inner : Row) → Cuts x full → Cuts (row.node k inner x) (row.node k inner full)
  -- a node that the cut goes through holds something, ends there, and nothing comes behind it
  through : {x inner full rest : Row} (k : SyntaxKind) → x ≡ row.nothing → is_filled inner ≡ true → Cuts inner full
      → Cuts (row.node k inner x) (row.node k full rest)
  -- one that is made late may not be there yet, but what is in it
  unmade : {x full rest : Row} (k : SyntaxKind) → is_late k ≡ true → Cuts x full → Cuts x (row.node k full rest)

-- some sentence begins with the words, and the row is what its outermost node holds, cut behind them
pub record IsCut (start : Rule) (words : List Word) (x : Row) : Type 0 where
  pub more : List Word
  pub full : Row
  pub sentence : Sentence start (words ++ more) (row.node (root_kind start) full row.nothing)
  pub cuts : Cuts x full

-- so is what a tree holds
abbrev pub IsCutIn : Rule → List ℕ → Plain → Type 0
IsCutIn start text tree = IsCut start (words text (leaves tree.children)) (shown text tree.children)

-- Trees as contracts see them. A row of trees is its first tree's kind, start, end and children, and the trees behind it.
use Rattle.std.specs.Prelude.{ℕ, List, [], ◌∷◌}
use Rattle.gql_grammar.specs.declared.syntax_kind.SyntaxKind.{SyntaxKind}
use Rattle.gql_cst.specs.declared.tree.Tree.{Tree, fold-Tree}
use Rattle.gql_cst.specs.declared.tree.Tree.TheOpen.{Tree-F}

pub data Forest : Type 0 where
  nothing : Forest
  tree_then : SyntaxKind → ℕ → ℕ → Forest → Forest → Forest

pub record Plain : Type 0 where
  pub kind : SyntaxKind
  pub start : ℕ
  pub end : ℕ
  pub children : Forest

abbrev pub row_of : List Plain → Forest
row_of [] = nothing
row_of (t ∷ ts) = tree_then t.kind t.start t.end t.children (row_of ts)

-- one level, with what each child gives in its place
abbrev pub plain_step : Tree-F Plain → Plain
plain_step t = record { kind = t.kind; start = t.start; end = t.end; children = row_of t.children.items }

abbrev pub plain : Tree → Plain
plain = fold-Tree Plain plain_step

-- The row that trees show is nested no deeper than they are.
use Rattle.std.proofs.Common.{ℕ, ◌+◌, ◌≤◌, max, List, slice_range, arith}
use Rattle.gql_grammar.specs.declared.word.Word.{Word}
use Rattle.gql_grammar.specs.declared.syntax_kind.SyntaxKind.{SyntaxKind}
use Rattle.gql_grammar.specs.Row as row
use Rattle.gql_grammar.specs.Row.{Row, level}
use Rattle.gql_cst.specs.Forest.{Forest, nothing, tree_then}
use Rattle.gql_cst.specs.Leaves.{Part, word, ignored, node, part_of}
use Rattle.gql_cst.specs.Nesting.{within_node, nesting}
use Rattle.gql_cst.specs.Sentences.{row_then, shown}
use Rattle.gql_cst.specs.Words.{word_of}

then-shallow : (p : Part) (k : SyntaxKind) (w : Word) (x y : Row) (n m : ℕ) → row.nesting x ≤ n → row.nesting y ≤ m → row.nesting (row_then p k w x y) ≤ max (within_node p (level k + n)) m
then-shallow node k w x y n m a b = omega arith
then-shallow word k w x y n m a b = omega arith
then-shallow ignored k w x y n m a b = omega arith

pub shown-shallow : (text : List ℕ) (f : Forest) → row.nesting (shown text f) ≤ nesting f
shown-shallow text nothing = omega arith
shown-shallow text (tree_then k start end children behind) =
    then-shallow (part_of k) k (word_of (slice_range text start end)) (shown text children) (shown text behind) (nesting children) (nesting behind)
    (shown-shallow text children) (shown-shallow text behind)

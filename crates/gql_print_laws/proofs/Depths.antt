-- How deep what is said is nested.
use Rattle.std.proofs.Common.{◌≡◌, ℕ, ◌++◌, length, ◌+◌, ◌≤◌, max, refl, ap, ◌∙◌, arith}
use Rattle.gql_grammar.specs.Row.{level}
use Rattle.gql_grammar.specs.declared.syntax_kind.SyntaxKind.{SyntaxKind}
use Rattle.gql_cst.specs.Forest.{Forest, tree_then}
use Rattle.gql_cst.specs.Leaves.{node, part_of}
use Rattle.gql_cst.specs.Nesting.{nesting}
use Rattle.gql_print_laws.specs.Literal.{Literal, null, variable, int, float, string, truth, name, list, object, Literals, no_literal, literal_then, Pairs, no_pair, pair_then}
use Rattle.gql_print_laws.specs.bridge.Said.{Text, Said, over, token, space, under, text_of, forest_at, Lexes}
use Rattle.gql_print_laws.specs.bridge.Written.{content_said, items_said, more_items, pairs_said, more_pairs}
use Rattle.gql_print_laws.specs.Depth.{most_levels, literal_depth, literals_depth, pairs_depth}

abbrev pub depth_said : Said → ℕ
depth_said over = 0
depth_said (token t s) = depth_said s
depth_said (space t s) = depth_said s
depth_said (under k i s) = max (level k + depth_said i) (depth_said s)

-- no deeper than a parser reads
abbrev pub IsShallow : Said → Type 0
IsShallow s = depth_said s ≤ most_levels

zero_max : (n : ℕ) → max 0 n ≡ n
zero_max n = omega arith

nesting_under : (k : SyntaxKind) (i s : Forest) → part_of k ≡ node → nesting (tree_then k 0 0 i s) ≡ max (level k + nesting i) (nesting s)
nesting_under k i s p = rw p refl

pub nesting_is : (s : Said) (n : ℕ) (rest : Text) → Lexes s rest → nesting (forest_at n s) ≡ depth_said s
nesting_is over n rest h = refl
nesting_is (token t s) n rest h = zero_max (nesting (forest_at (n + length t) s)) ∙ nesting_is s (n + length t) rest h.1
nesting_is (space t s) n rest h = zero_max (nesting (forest_at (n + length t) s)) ∙ nesting_is s (n + length t) rest h.1
nesting_is (under k i s) n rest h =
    nesting_under k (forest_at n i) (forest_at (n + length (text_of i)) s) h.0
    ∙ ap (λ m. max (level k + m) (nesting (forest_at (n + length (text_of i)) s))) (nesting_is i n (text_of s ++ rest) h.1.0)
    ∙ ap (λ m. max (level k + depth_said i) m) (nesting_is s (n + length (text_of i)) rest h.1.1)

-- ---- values

mutual
  pub value_depth : (l : Literal) → depth_said (content_said l) ≤ literal_depth l
  value_depth null = omega arith
  value_depth (variable t) = omega arith
  value_depth (int t) = omega arith
  value_depth (float t) = omega arith
  value_depth (string t) = omega arith
  value_depth (truth b) = omega arith
  value_depth (name t) = omega arith
  value_depth (list ls) = let a = items_depth ls in omega (arith, a)
  value_depth (object ps) = let a = pairs_said_depth ps in omega (arith, a)

  items_depth : (ls : Literals) → depth_said (items_said ls) ≤ literals_depth ls
  items_depth no_literal = omega arith
  items_depth (literal_then l ls) = let a = value_depth l in let b = more_depth ls in omega (arith, a, b)

  more_depth : (ls : Literals) → depth_said (more_items ls) ≤ literals_depth ls
  more_depth no_literal = omega arith
  more_depth (literal_then l ls) = let a = value_depth l in let b = more_depth ls in omega (arith, a, b)

  pairs_said_depth : (ps : Pairs) → depth_said (pairs_said ps) ≤ pairs_depth ps
  pairs_said_depth no_pair = omega arith
  pairs_said_depth (pair_then k l ps) = let a = value_depth l in let b = more_pairs_depth ps in omega (arith, a, b)

  more_pairs_depth : (ps : Pairs) → depth_said (more_pairs ps) ≤ pairs_depth ps
  more_pairs_depth no_pair = omega arith
  more_pairs_depth (pair_then k l ps) = let a = value_depth l in let b = more_pairs_depth ps in omega (arith, a, b)

-- The trees of all open nodes in one list, those of the outermost first.
use Rattle.std.specs.Prelude.{◌≡◌, ℕ, List, [], ◌∷◌, ◌++◌, length, take, drop, map}
use Rattle.gql_grammar.specs.declared.syntax_kind.SyntaxKind.{SyntaxKind}
use Rattle.gql_cst.specs.declared.trees.Trees.{Trees}
use Rattle.gql_cst.specs.Forest.{Plain, plain}
use Rattle.gql_cst.specs.bridge.Machine.{node_of}
use Rattle.gql_cst.specs.bridge.Open.{Open}

-- the trees from the place on become one node
abbrev pub gathered : SyntaxKind → ℕ → List Plain → List Plain
gathered kind start trees = take start trees ++ (node_of kind (drop start trees) ∷ [])

-- the rows lie one behind the other, and each begins at its mark
abbrev pub Rowed : List Plain → List Open → Type 0
Rowed trees [] = trees ≡ []
Rowed trees (inner ∷ outer) =
    (before : List Plain) × (trees ≡ before ++ inner.trees) × (inner.node.begun.mark ≡ length before) × Rowed before outer

-- these nodes are open, and these ignored tokens wait
abbrev pub stand : Trees → ℕ → List Open → List Plain → Type 0
stand made at os waiting = Rowed (map plain made.trees.items) os × (map plain made.waiting.items ≡ waiting)

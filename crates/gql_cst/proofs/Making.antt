-- What a parse gives whose output makes a concrete tree.
use Rattle.std.proofs.Common.{◌≡◌, ℕ, List, [], ◌∷◌, ◌++◌, map, refl, ◌∙◌, sym, ap, subst}
use Rattle.gql_grammar.specs.declared.rule.Rule.{Rule}
use Rattle.gql_grammar.specs.declared.syntax_kind.SyntaxKind.{SyntaxKind}
use Rattle.gql_cst.specs.declared.limits.Limits.{Limits}
use Rattle.gql_cst.specs.declared.made.Made.{Made}
use Rattle.gql_cst.specs.declared.tree.Tree.{Tree}
use Rattle.gql_cst.specs.declared.trees.Trees.{Trees}
use Rattle.gql_cst.specs.Forest.{Plain, plain}
use Rattle.gql_cst.specs.bridge.Going.{IsMade}
use Rattle.gql_cst.specs.bridge.Machine.{node_of}
use Rattle.gql_cst.specs.bridge.Open.{whole_text}
use Rattle.gql_cst.specs.Parses.{Reports}
use Rattle.gql_cst.specs.bridge.Rowed.{Rowed, stand}
use Rattle.gql_cst.specs.Sentences.{root_kind}

-- the row of the whole text is the list
whole-row : (trees row : List Plain) → Rowed trees (whole_text row ∷ []) → trees ≡ row
whole-row trees row h = h.1 ∙ ap (λ z. z ++ row) h.3

pub made-tree : (start : Rule) (text : List ℕ) (limits : Limits) (kind : SyntaxKind) (made : Made Trees) (tree : Tree) → kind ≡ root_kind start → IsMade stand start text limits made
    → plain tree ≡ node_of kind (map plain made.out.trees.items ++ map plain made.out.waiting.items)
    → Reports start text limits (record { tree = plain tree; error = made.error; recursion_reached = made.recursion_reached; tokens_reached = made.tokens_reached })
made-tree start text limits kind made tree k m e =
    let row : map plain made.out.trees.items ≡ m.trees = whole-row (map plain made.out.trees.items) m.trees m.stands.0 in
    let same : plain tree ≡ node_of (root_kind start) (m.trees ++ m.waiting) = e ∙ (λ i. node_of (k i) (row i ++ m.stands.1 i)) in
    subst (λ (t : Plain). Reports start text limits (record { tree = t; error = made.error; recursion_reached = made.recursion_reached; tokens_reached = made.tokens_reached })) (sym same) m.reports

-- no tree is there, and no token waits
pub nothing_stands : (made : Trees) → made.trees.items ≡ [] → made.waiting.items ≡ [] → (at : ℕ) → stand made at (whole_text [] ∷ []) []
nothing_stands made t w at = (([], ap (map plain) t, refl, refl), ap (map plain) w)

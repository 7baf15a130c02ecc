-- Rows of trees: one tree of a row is smaller than the row, and the last token of a row that grows.
use Rattle.std.proofs.Common.{◌≡◌, ℕ, zero, suc, ◌+◌, ◌-◌, ◌<◌, ◌≤◌, true, false, if◌then◌else◌, List, [], ◌∷◌, ◌++◌, length, get_or, take, option_to_list, Option, Some, None, refl, sym, ap, ◌∙◌, subst, arith}
use Rattle.std.proofs.lemmas.List.{take_more}
use Rattle.gql_cst.specs.declared.tree.Tree.{Tree}
use Rattle.gql_cst.specs.Forest.{Forest, nothing, tree_then, plain}
use Rattle.gql_cst.specs.bridge.Forest.{forest}
use Rattle.gql_cst.specs.SyntaxKind.{SyntaxKind}
use Rattle.gql_ast_base.specs.Kinds.{is_kind}
use Rattle.gql_ast_base.specs.Parts.{or_else, head, gather, of_kind, children_of, inside, end_of, tree_end}
use Rattle.gql_ast_base.specs.bridge.Parts.{size}

pub size-item : (nodes : List Tree) (i : ℕ) (tree : Tree) → i < length nodes → tree ≡ get_or nodes i tree → size (plain tree).children + 1 ≤ size (forest nodes)
size-item [] i tree within is = absurd (omega arith)
size-item (node ∷ nodes) zero tree within is = subst (λ t. size (plain t).children + 1 ≤ size (forest (node ∷ nodes))) (sym is) (omega arith)
size-item (node ∷ nodes) (suc i) tree within is = let rest : size (plain tree).children + 1 ≤ size (forest nodes) = size-item nodes i tree (omega arith) is in omega arith

or_else-none : {T : Type 0} (o : Option T) → or_else o None ≡ o
or_else-none None = refl
or_else-none (Some x) = refl

or_else-assoc : {T : Type 0} (a b c : Option T) → or_else (or_else a b) c ≡ or_else a (or_else b c)
or_else-assoc None b c = refl
or_else-assoc (Some x) b c = refl

end_of-push : (trees : List Tree) (tree : Tree) → end_of (forest (trees ++ tree ∷ [])) ≡ or_else (tree_end (plain tree)) (end_of (forest trees))
end_of-push [] tree = sym (or_else-none (tree_end (plain tree)))
end_of-push (first ∷ trees) tree =
    ap (λ o. or_else o (tree_end (plain first))) (end_of-push trees tree)
    ∙ or_else-assoc (tree_end (plain tree)) (end_of (forest trees)) (tree_end (plain first))

-- the end of the first k + 1 trees is that of the last of them, or else that of those before it
pub end_of-take : (trees : List Tree) (k : ℕ) (tree : Tree) → k < length trees → tree ≡ get_or trees k tree → end_of (forest (take (k + 1) trees)) ≡ or_else (tree_end (plain tree)) (end_of (forest (take k trees)))
end_of-take trees k tree within is =
    ap (λ l. end_of (forest l)) (take_more trees k tree within ∙ ap (λ t. take k trees ++ t ∷ []) (sym is)) ∙ end_of-push (take k trees) tree

-- what the index of a walk from the back leaves: one tree more than the next index leaves
pub end_of-back : (trees : List Tree) (index : ℕ) (tree : Tree) → index < length trees → tree ≡ get_or trees (length trees - 1 - index) tree
    → end_of (forest (take (length trees - index) trees)) ≡ or_else (tree_end (plain tree)) (end_of (forest (take (length trees - (index + 1)) trees)))
end_of-back trees index tree within is =
    let k = length trees - 1 - index in
    let more : length trees - index ≡ k + 1 = omega arith in
    let fewer : k ≡ length trees - (index + 1) = omega arith in
    ap (λ n. end_of (forest (take n trees))) more ∙ end_of-take trees k tree (omega arith) is
    ∙ ap (λ n. or_else (tree_end (plain tree)) (end_of (forest (take n trees)))) fewer

-- what stands in the first tree of a kind is no more than the row
pub size-inside : (kind : SyntaxKind) (row : Forest) → size (inside kind row) ≤ size row
size-inside kind nothing = omega arith
size-inside kind (tree_then k start end children rest) =
    elim (is_kind k kind) as (λ b. size (children_of (head (option_to_list (if b then Some (record { kind = k; start = start; end = end; children = children }) else None) ++ gather (of_kind kind) rest))) ≤ 1 + (size children + size rest)) [
      | true ↦ omega arith
      | false ↦ (let rest_of : size (inside kind rest) ≤ size rest = size-inside kind rest in omega arith)
    ]

-- a row that is the children of a tree has their size
pub size-of : (trees items : List Tree) (row : Forest) → trees ≡ items → forest items ≡ row → size (forest trees) ≡ size row
size-of trees items row is plainly = ap (λ l. size (forest l)) is ∙ ap size plainly

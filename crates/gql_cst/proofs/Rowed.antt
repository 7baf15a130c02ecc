-- Rows that lie one behind the other in one list of trees.
use Rattle.std.proofs.Common.{◌≡◌, ℕ, ◌≤◌, List, [], ◌∷◌, ◌++◌, map, length, take, drop, refl, ◌∙◌, sym, ap, subst, append_assoc, length-append, arith}
use Rattle.std.proofs.lemmas.List.{take_at, drop_at, take-map, drop-map, map-append, length-map}
use Rattle.gql_grammar.specs.declared.syntax_kind.SyntaxKind.{SyntaxKind}
use Rattle.gql_cst.specs.declared.begun.Begun.{Begun}
use Rattle.gql_cst.specs.declared.tree.Tree.{Tree}
use Rattle.gql_cst.specs.Forest.{Plain, plain}
use Rattle.gql_cst.specs.bridge.Machine.{node_of}
use Rattle.gql_cst.specs.bridge.Open.{Open, opened, grown_by, wrapped}
use Rattle.gql_cst.specs.bridge.Rowed.{gathered, Rowed}

pub gathered-items : (kind : SyntaxKind) (start : ℕ) (old kept new children : List Tree) (t : Tree)
    → new ≡ kept ++ (t ∷ []) → kept ≡ take start old → children ≡ drop start old → plain t ≡ node_of kind (map plain children)
    → map plain new ≡ gathered kind start (map plain old)
gathered-items kind start old kept new children t e k d p =
    let front : map plain kept ≡ take start (map plain old) = ap (map plain) k ∙ sym (take-map plain start old) in
    let row : map plain children ≡ drop start (map plain old) = ap (map plain) d ∙ sym (drop-map plain start old) in
    let last : plain t ≡ node_of kind (drop start (map plain old)) = p ∙ ap (node_of kind) row in
    ap (map plain) e ∙ map-append plain kept (t ∷ []) ∙ (λ k. front k ++ (last k ∷ []))

nil : (xs : List Plain) → xs ++ [] ≡ xs
nil [] = refl
nil (x ∷ xs) = ap (λ ys. x ∷ ys) (nil xs)

-- ---- what the output's calls make of the rows

pub begin-rowed : (trees : List Plain) (os : List Open) (kind : SyntaxKind) (mark place : ℕ) → mark ≡ length trees → Rowed trees os → Rowed trees (opened kind mark place ∷ os)
begin-rowed trees os kind mark place e h = (trees, sym (nil trees), e, h)

pub token-rowed : (trees more : List Plain) (inner : Open) (os : List Open) → Rowed trees (inner ∷ os) → Rowed (trees ++ more) (grown_by more inner ∷ os)
token-rowed trees more inner os h = (h.0, ap (λ z. z ++ more) h.1 ∙ append_assoc h.0 inner.trees more, h.2, h.3)

pub mark-within : (trees : List Plain) (inner : Open) (os : List Open) → Rowed trees (inner ∷ os) → inner.node.begun.mark ≤ length trees
mark-within trees inner os h = omega (arith, h.2, ap length h.1, length-append h.0 inner.trees)

gathered-row : (kind : SyntaxKind) (mark : ℕ) (trees before row : List Plain) → trees ≡ before ++ row → mark ≡ length before → gathered kind mark trees ≡ before ++ (node_of kind row ∷ [])
gathered-row kind mark trees before row e m =
    let front : take mark trees ≡ before = ap (take mark) e ∙ take_at before row mark (sym m) in
    let back : drop mark trees ≡ row = ap (drop mark) e ∙ drop_at before row mark (sym m) in
    (λ i. front i ++ (node_of kind (back i) ∷ []))

pub wrap-rowed : (kind : SyntaxKind) (trees new : List Plain) (inner : Open) (os : List Open) → new ≡ gathered kind inner.node.begun.mark trees
    → Rowed trees (inner ∷ os) → Rowed new (wrapped kind inner ∷ os)
wrap-rowed kind trees new inner os e h = (h.0, e ∙ gathered-row kind inner.node.begun.mark trees h.0 inner.trees h.1 h.2, h.2, h.3)

pub end-rowed : (kind : SyntaxKind) (trees new : List Plain) (inner outer : Open) (os : List Open) → new ≡ gathered kind inner.node.begun.mark trees
    → Rowed trees (inner ∷ outer ∷ os) → Rowed new (grown_by (node_of kind inner.trees ∷ []) outer ∷ os)
end-rowed kind trees new inner outer os e h =
    let around = h.3 in
    let node = node_of kind inner.trees in
    (around.0, e ∙ gathered-row kind inner.node.begun.mark trees h.0 inner.trees h.1 h.2 ∙ ap (λ z. z ++ (node ∷ [])) around.1 ∙ append_assoc around.0 outer.trees (node ∷ []), around.2, around.3)

-- ---- the same of the code's lists

pub begin-listed : (trees : List Tree) (os : List Open) (kind : SyntaxKind) (mark place : ℕ) → mark ≡ length trees → Rowed (map plain trees) os → Rowed (map plain trees) (opened kind mark place ∷ os)
begin-listed trees os kind mark place e h = begin-rowed (map plain trees) os kind mark place (e ∙ sym (length-map trees plain)) h

pub pushed-listed : (waiting pushed : List Tree) (t : Tree) (w : List Plain) (p : Plain) → pushed ≡ waiting ++ (t ∷ []) → plain t ≡ p → map plain waiting ≡ w → map plain pushed ≡ w ++ (p ∷ [])
pushed-listed waiting pushed t w p e f h = ap (map plain) e ∙ map-append plain waiting (t ∷ []) ∙ (λ i. h i ++ (f i ∷ []))

pub token-listed : (trees waiting all pushed : List Tree) (t : Tree) (p : Plain) (inner : Open) (os : List Open) (w : List Plain) → all ≡ trees ++ waiting → pushed ≡ all ++ (t ∷ []) → plain t ≡ p
    → map plain waiting ≡ w → Rowed (map plain trees) (inner ∷ os) → Rowed (map plain pushed) (grown_by (w ++ (p ∷ [])) inner ∷ os)
token-listed trees waiting all pushed t p inner os w a e f g h =
    let front : map plain all ≡ map plain trees ++ w = ap (map plain) a ∙ map-append plain trees waiting ∙ ap (λ z. map plain trees ++ z) g in
    let whole : map plain pushed ≡ map plain trees ++ (w ++ (p ∷ [])) =
    ap (map plain) e ∙ map-append plain all (t ∷ []) ∙ (λ i. front i ++ (f i ∷ [])) ∙ append_assoc (map plain trees) w (p ∷ []) in
    subst (λ (z : List Plain). Rowed z (grown_by (w ++ (p ∷ [])) inner ∷ os)) (sym whole) (token-rowed (map plain trees) (w ++ (p ∷ [])) inner os h)

within-listed : (trees : List Tree) (inner : Open) (os : List Open) → Rowed (map plain trees) (inner ∷ os) → inner.node.begun.mark ≤ length trees
within-listed trees inner os h = omega (arith, mark-within (map plain trees) inner os h, length-map trees plain)

-- where the trees from the mark on became one node
pub wrap-listed : (kind : SyntaxKind) (trees new : List Tree) (begun : Begun) → (begun.mark ≤ length trees → map plain new ≡ gathered kind begun.mark (map plain trees))
    → (inner : Open) (os : List Open) → inner.node.begun ≡ begun → Rowed (map plain trees) (inner ∷ os) → Rowed (map plain new) (wrapped kind inner ∷ os)
wrap-listed kind trees new begun made inner os e h =
    let mark : inner.node.begun.mark ≡ begun.mark = ap (λ b. b.mark) e in
    let within : begun.mark ≤ length trees = omega (arith, within-listed trees inner os h, mark) in
    wrap-rowed kind (map plain trees) (map plain new) inner os (made within ∙ ap (λ m. gathered kind m (map plain trees)) (sym mark)) h

pub end-listed : (kind : SyntaxKind) (trees new : List Tree) (begun : Begun) → (begun.mark ≤ length trees → map plain new ≡ gathered kind begun.mark (map plain trees))
    → (inner outer : Open) (os : List Open) → inner.node.begun ≡ begun → Rowed (map plain trees) (inner ∷ outer ∷ os)
    → Rowed (map plain new) (grown_by (node_of kind inner.trees ∷ []) outer ∷ os)
end-listed kind trees new begun made inner outer os e h =
    let mark : inner.node.begun.mark ≡ begun.mark = ap (λ b. b.mark) e in
    let within : begun.mark ≤ length trees = omega (arith, within-listed trees inner (outer ∷ os) h, mark) in
    end-rowed kind (map plain trees) (map plain new) inner outer os (made within ∙ ap (λ m. gathered kind m (map plain trees)) (sym mark)) h

-- How a part that ends in `Wrap` folds into the node that it makes, and unfolds again.
use Rattle.std.proofs.Common.{◌≡◌, List, [], ◌∷◌, ◌++◌, Some, None, refl, subst}
use Rattle.gql_grammar.specs.declared.word.Word.{Word}
use Rattle.gql_grammar.specs.declared.symbol.Symbol.{Symbol}
use Rattle.gql_grammar.specs.declared.symbol.Symbol.TheVariants.{One, Wrap}
use Rattle.gql_grammar.specs.declared.rule.Rule.{Rule}
use Rattle.gql_grammar.specs.declared.syntax_kind.SyntaxKind.{SyntaxKind}
use Rattle.gql_grammar.specs.Grammar.{Grammar}
use Rattle.gql_grammar.specs.Rule.{kind_of}
use Rattle.gql_grammar.specs.Row.{Row, nothing, node, with_node}
use Rattle.gql_grammar.specs.Reads.{Reads, done, tree, group, wrap, IsOneOf, here, there}
use Rattle.gql_grammar.proofs.Appended.{Reads-append, Reads-split}
use Rattle.gql_grammar.proofs.Steps.{some_same, some_none}
use Rattle.gql_grammar.proofs.Ways.{none_of}

-- what a group reads, one of its ways reads
abbrev pub WayOf : Grammar → Rule → Row → List Word → Row → List Word → Type 0
WayOf g r x ws y vs = (a : List Symbol) × (IsOneOf a (g r) × Reads g a x ws y vs)

pub way_of_group : {g : Grammar} {r : Rule} {x y : Row} {ws vs : List Word}
    → kind_of r ≡ None → Reads g (One r ∷ []) x ws y vs → WayOf g r x ws y vs
way_of_group i (tree r k a inner i2 m d done) = some_none (kind_of r) k i2 i
way_of_group i (group r a i2 m d done) = (a, (m, d))

-- what a rule with a node reads, one of its ways reads inside the node
abbrev pub TreeOf : Grammar → Rule → SyntaxKind → Row → List Word → Row → List Word → Type 0
TreeOf g r k x ws y vs = (a : List Symbol) × (inner : Row) × (IsOneOf a (g r) × (Reads g a nothing ws inner vs × (with_node x k inner ≡ y)))

pub way_of_tree : {g : Grammar} {r : Rule} {k : SyntaxKind} {x y : Row} {ws vs : List Word}
    → kind_of r ≡ Some k → Reads g (One r ∷ []) x ws y vs → TreeOf g r k x ws y vs
way_of_tree {g = g} {k = k} {x = x} i (tree r k2 a inner i2 m d done) =
    (a, inner, (m, (d, subst (λ j. with_node x j inner ≡ with_node x k2 inner) (some_same (kind_of r) k2 k i2 i) refl)))
way_of_tree {k = k} i (group r a i2 m d done) = some_none (kind_of r) k i i2

pub Wrap-same : {g : Grammar} {k : SyntaxKind} {x y : Row} {ws vs : List Word}
    → {a : List Symbol} {z : Row} {us : List Word}
    → Reads g a z us x ws → Reads g (Wrap k ∷ []) x ws y vs → (inner : Row) × (Reads g a z us inner vs × (node k inner nothing ≡ y))
Wrap-same {x = x} d (wrap k done) = (x, (d, refl))

-- what `p` and then `a` read, up to the `Wrap`, is the node of the rule that is written `p ++ a`
pub fold_tail : {g : Grammar} {k : SyntaxKind} (r : Rule) (p a : List Symbol) {x y : Row} {ws us vs : List Word}
    → kind_of r ≡ Some k → IsOneOf (p ++ a) (g r)
    → Reads g p nothing ws x us → Reads g (a ++ (Wrap k ∷ [])) x us y vs → Reads g (One r ∷ []) nothing ws y vs
fold_tail {g = g} {k = k} r p a {ws = ws} {vs = vs} i m d e =
    let (z, us2, both) = Reads-split a e in
    let (inner, found) = Wrap-same both.0 both.1 in
    subst (λ o. Reads g (One r ∷ []) nothing ws o vs) found.1 (tree r k (p ++ a) inner i m (Reads-append d found.0) done)

pub only_one : {a b : List Symbol} → IsOneOf a (b ∷ []) → a ≡ b
only_one here = refl
only_one (there m) = none_of m

abbrev pub Unfolded : Grammar → SyntaxKind → List Symbol → List Symbol → List Word → Row → List Word → Type 0
Unfolded g k p a ws y vs = (x : Row) × (us : List Word) × (Reads g p nothing ws x us × Reads g (a ++ (Wrap k ∷ [])) x us y vs)

-- and back
pub unfold_tail : {g : Grammar} {k : SyntaxKind} (r : Rule) (p a : List Symbol) {y : Row} {ws vs : List Word}
    → kind_of r ≡ Some k → g r ≡ (p ++ a) ∷ [] → Reads g (One r ∷ []) nothing ws y vs → Unfolded g k p a ws y vs
unfold_tail {g = g} {k = k} r p a {y = y} {ws = ws} {vs = vs} i only d =
    let (b, inner, found) = way_of_tree i d in
    let same : b ≡ (p ++ a) = only_one (subst (λ ways. IsOneOf b ways) only found.0) in
    let (x, us, both) = Reads-split p (subst (λ c. Reads g c nothing ws inner vs) same found.1.0) in
    (x, us, (both.0, subst (λ o. Reads g (a ++ (Wrap k ∷ [])) x us o vs) found.1.1 (Reads-append both.1 (wrap k done))))

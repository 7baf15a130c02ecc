-- The tokens of a text are one list, since one thing stands at each place.
use Rattle.std.proofs.Common.{◌≡◌, ℕ, ◌-◌, ◌≤◌, List, [], ◌∷◌, drop, refl, ◌∙◌, sym, ap, subst, arith}
use Rattle.gql_lexer.specs.Lexical.{IsToken, StandsOne}
use Rattle.gql_cst.specs.Leaves.{Part, Leaf, part_of_token, IsLeaf, Tiles}

made : Part → ℕ → ℕ → Leaf
made part start end = record { part = part; start = start; end = end }

pub same_leaf : ((at : List ℕ) → StandsOne at) → (text : List ℕ) (place : ℕ) (a b : Leaf) → IsLeaf text place a → IsLeaf text place b → a ≡ b
unfolding made
same_leaf stands text place a b l m =
    let starts : a.start ≡ b.start = l.starts ∙ sym m.starts in
    let token = subst (λ (n : ℕ). IsToken m.kind (drop n text) (b.end - b.start)) (sym starts) m.token in
    let one = (stands (drop a.start text)).one_token l.kind m.kind (a.end - a.start) (b.end - b.start) l.token token in
    let ends : a.end ≡ b.end = omega (arith, starts, one.1, l.further, m.further) in
    let parts : a.part ≡ b.part = sym l.part ∙ ap part_of_token one.0 ∙ m.part in
    ap (λ p. made p a.start a.end) parts ∙ ap (λ n. made b.part n a.end) starts ∙ ap (λ n. made b.part b.start n) ends

tiles-ordered : (text : List ℕ) (from to : ℕ) (ls : List Leaf) → Tiles text from ls to → from ≤ to
tiles-ordered text from to [] t = omega (arith, t)
tiles-ordered text from to (a ∷ ls) t = omega (arith, t.0.starts, t.0.further, tiles-ordered text a.end to ls t.1)

no_room : {A : Type 0} (text : List ℕ) (from to : ℕ) (a : Leaf) (ls : List Leaf) → from ≡ to → Tiles text from (a ∷ ls) to → A
no_room text from to a ls e t = absurd (omega (arith, e, t.0.starts, t.0.further, tiles-ordered text a.end to ls t.1))

pub tiles_same : ((at : List ℕ) → StandsOne at) → (text : List ℕ) (from to : ℕ) (one other : List Leaf) → Tiles text from one to → Tiles text from other to → one ≡ other
tiles_same stands text from to [] [] t u = refl
tiles_same stands text from to [] (b ∷ other) t u = no_room text from to b other t u
tiles_same stands text from to (a ∷ one) [] t u = no_room text from to a one u t
tiles_same stands text from to (a ∷ one) (b ∷ other) t u =
    let e = same_leaf stands text from a b t.0 u.0 in
    ap (λ x. x ∷ one) e
    ∙ ap (λ xs. b ∷ xs) (tiles_same stands text b.end to one other (subst (λ (x : Leaf). Tiles text x.end one to) e t.1) u.1)

-- The tokens that are held when a reading goes on by a token.
use Rattle.std.proofs.Common.{◌≡◌, ℕ, List, [], ◌∷◌, ◌++◌, refl, ◌∙◌, sym, ap, subst, append_assoc, arith}
use Rattle.gql_cst.specs.Forest.{Plain}
use Rattle.gql_cst.specs.Leaves.{Leaf, IsLeaf, Tiles}
use Rattle.gql_cst.specs.bridge.Leaves.{leaves_of}
use Rattle.gql_cst.specs.bridge.Nesting.{nesting_of}
use Rattle.gql_cst.specs.bridge.Machine.{State, all_ended, grown}
use Rattle.gql_cst.specs.bridge.Sound.{IsSound}
use Rattle.gql_cst.proofs.Rows.{leaves_of-append, nesting_of-append}
use Rattle.gql_cst.proofs.Sounds.{Keeps, leaves_of-grown}

-- the tokens of the machine's trees, and of those behind them
abbrev pub held : State → List Plain → List Leaf
held s ignored = leaves_of (all_ended s ++ ignored)

pub tiles-then : (text : List ℕ) (from : ℕ) (ls : List Leaf) (to : ℕ) (leaf : Leaf) → Tiles text from ls to → IsLeaf text to leaf → Tiles text from (ls ++ (leaf ∷ [])) leaf.end
tiles-then text from [] to leaf h l = (subst (λ (place : ℕ). IsLeaf text place leaf) (sym h) l, refl)
tiles-then text from (x ∷ xs) to leaf h l = (h.0, tiles-then text x.end xs to leaf h.1 l)

pub held-keeps : (s new : State) (ignored : List Plain) → Keeps s new → held new ignored ≡ held s ignored
held-keeps s new ignored k =
    leaves_of-append (all_ended new) ignored ∙ ap (λ z. z ++ leaves_of ignored) k.leaves ∙ sym (leaves_of-append (all_ended s) ignored)

pub held-ignored : (s : State) (ignored : List Plain) (t : Plain) → held s (ignored ++ (t ∷ [])) ≡ held s ignored ++ leaves_of (t ∷ [])
held-ignored s ignored t =
    ap leaves_of (sym (append_assoc (all_ended s) ignored (t ∷ []))) ∙ leaves_of-append (all_ended s ++ ignored) (t ∷ [])

nil : (xs : List Plain) → xs ++ [] ≡ xs
nil [] = refl
nil (x ∷ xs) = ap (λ ys. x ∷ ys) (nil xs)

pub held-grown : (s : State) (ignored : List Plain) (t : Plain) → IsSound s → held (grown (ignored ++ (t ∷ [])) s) [] ≡ held s ignored ++ leaves_of (t ∷ [])
held-grown s ignored t h =
    ap leaves_of (nil (all_ended (grown (ignored ++ (t ∷ [])) s))) ∙ leaves_of-grown (ignored ++ (t ∷ [])) s h
    ∙ sym (leaves_of-append (all_ended s) (ignored ++ (t ∷ []))) ∙ held-ignored s ignored t

pub depth-held : (s : State) (ignored : List Plain) → IsSound s → nesting_of ignored ≡ 0 → nesting_of (all_ended s ++ ignored) ≡ s.deepest
depth-held s ignored h flat = omega (arith, nesting_of-append (all_ended s) ignored, h.deepest, flat)

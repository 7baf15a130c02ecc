-- What a flood from some nodes leaves marked.
use Rattle.std.proofs.Common.{refl, ◌≡◌, ℕ, zero, suc, ◌<◌, inl, inr, Some, List, length, replicate, sym, ap, ◌∙◌, arith}
use Rattle.std.specs.List.{slice_get}
use Rattle.gql_graph.specs.Graph.{Graph}
use Rattle.gql_graph.specs.bridge.Graph.{IsFlooded}
use Rattle.gql_graph.proofs.Walks.{lift, forget, inside}
use Rattle.gql_rules_nodes.specs.Reached.{AreReached}

zeros : (count v k : ℕ) → slice_get {X = ℕ} (replicate count 0) v ≡ Some k → k ≡ 0
zeros zero v k is = absurd cc
zeros (suc count) zero k is = let e : Some 0 ≡ Some k = is in cc
zeros (suc count) (suc v) k is = zeros count v k is

zero_in : (count x : ℕ) → x < count → slice_get {X = ℕ} (replicate count 0) x ≡ Some 0
zero_in zero x within = absurd (omega (arith, within))
zero_in (suc count) zero within = refl
zero_in (suc count) (suc x) within = zero_in count x (omega (arith, within))

pub reaching : (g : Graph) (starts old states told : List ℕ) → old ≡ replicate (length g) 0 → length states ≡ length g
    → IsFlooded g old states starts 0 1 told → AreReached g starts states
reaching g starts old states told begun as_many flooded = record {
  as_many = as_many;
  reached = λ v within r. flooded.reached v (r.0, r.1, lift g old 0 (λ x to from. zero_at x (inside g from within)) r.2);
  only = λ v is. elim (flooded.only v) [
    | inl e ↦ absurd (omega (arith, zeros (length g) v 1 (ap (λ (l : List ℕ). slice_get l v) (sym begun) ∙ sym e ∙ is)))
    | inr p ↦ (p.0.0, p.0.1, forget g old 0 p.0.2)
  ];
}
  where
    zero_at : (x : ℕ) → x < length g → slice_get old x ≡ Some 0
    zero_at x within = ap (λ l. slice_get l x) begun ∙ zero_in (length g) x within

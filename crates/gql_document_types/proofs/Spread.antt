-- Fragments that are on cycles, and their marks.
use Rattle.std.proofs.Common.{◌≡◌, ℕ, zero, suc, Bool, true, false, not, List, [], ◌∷◌, Some, refl, sym}
use Rattle.std.specs.Prelude.{slice_get}
use Rattle.std.specs.List.{list_any}
use Rattle.gql_graph.specs.Chains.{AreJudged}
use Rattle.gql_graph.proofs.Walks.{from_node}
use Rattle.gql_document_types.specs.Spreads.{TellsAcyclic, spread_graph}
use Rattle.gql_document_types.specs.declared.fragment.Fragment.{Fragment}

none_marked : (marks : List Bool) (v : ℕ) → list_any (λ mark. mark) marks ≡ false → slice_get marks v ≡ Some true → ⊥
none_marked [] v none is = cc
none_marked (true ∷ marks) v none is = let f : true ≡ false = none in cc
none_marked (false ∷ marks) zero none is = let f : Some false ≡ Some true = is in cc
none_marked (false ∷ marks) (suc v) none is = none_marked marks v none is

one_marked : (marks : List Bool) → list_any (λ mark. mark) marks ≡ true → (v : ℕ) × (slice_get marks v ≡ Some true)
one_marked [] some = absurd (let f : false ≡ true = some in cc)
one_marked (true ∷ marks) some = (0, refl)
one_marked (false ∷ marks) some = let found = one_marked marks some in (suc found.0, found.1)

pub told : (fragments : List Fragment) (named : ℕ) (marks long : List Bool) (cyclic : Bool) → AreJudged (spread_graph fragments) named marks long
    → cyclic ≡ list_any (λ mark. mark) marks → TellsAcyclic fragments (not cyclic)
told fragments named marks long true judged is = record {
  none = λ acyclic. absurd (let f : false ≡ true = acyclic in cc);
  some = λ _. let found = one_marked marks (sym is) in (found.0, judged.on_cycles.only found.0 found.1);
}
told fragments named marks long false judged is = record {
  none = λ _ v cycle. none_marked marks v (sym is) (judged.on_cycles.marked v (from_node (spread_graph fragments) v cycle.0 cycle.1) cycle);
  some = λ cyclic. absurd (let f : true ≡ false = cyclic in cc);
}

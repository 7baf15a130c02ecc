-- What is told of marked nodes.
use Rattle.std.proofs.Common.{◌≡◌, ℕ, ◌+◌, ◌<◌, Bool, true, false, ◌&&◌, Option, Some, None, List, [], ◌∷◌, length, refl, sym, ap, ◌∙◌, subst}
use Rattle.std.specs.List.{slice_get}
use Rattle.std.proofs.lemmas.Option.{slice_get_within}
use Rattle.gql_ast_base.specs.Names.{Named}
use Rattle.gql_diag_messages.specs.declared.diagnostic_data.DiagnosticData.{DiagnosticData}
use Rattle.gql_diag_messages.specs.declared.rule.Rule.{Rule}
use Rattle.gql_graph.specs.Chains.{AreJudged, has_chain, mark_of, is_marked}
use Rattle.gql_graph.specs.Cycles.{AreMarked, IsOnCycle, ReachesCycle}
use Rattle.gql_graph.specs.Graph.{Graph}
use Rattle.gql_rules_values.specs.Faults.{name_fault, long_chain, only_if}
use Rattle.gql_rules_values.specs.Written.{is_written}
use Rattle.gql_client_schema_laws.specs.Pairs.{Paired}
use Rattle.gql_client_schema_laws.proofs.Pairs.{joined_alike}
use Rattle.gql_schema_rules.specs.CycleFaults.{name_faults, faults_from, IsTold}

only_weaker : (b c w z : Bool) (told again : DiagnosticData) → (c ≡ true → b ≡ true) → w ≡ z → only_if (b && w) told ≡ [] → only_if (c && z) again ≡ []
only_weaker b false w z told again h same none = refl
only_weaker true true true z told again h same none = absurd cc
only_weaker true true false false told again h same none = refl
only_weaker true true false true told again h same none = absurd cc
only_weaker false true w z told again h same none = let e : false ≡ true = h refl in absurd cc

-- each mark of the second list is one of the first
abbrev pub IsWithin : List Bool → List Bool → Type 0
IsWithin marks within = (v : ℕ) → is_marked marks v ≡ true → is_marked within v ≡ true

module _ {X Y : Type 0} (own : X → Named) (own_again : Y → Named) (rule : Rule) (recursive long recursive_again long_again : List Bool)
    (cycles : IsWithin recursive_again recursive) (chains : IsWithin long_again long) where
  abbrev pub SamePlace : X → Y → Type 0
  SamePlace x y = is_written (own x).location ≡ is_written (own_again y).location

  pub fewer_marks : (v : ℕ) (xs : List X) (ys : List Y) → Paired SamePlace xs ys → faults_from own rule recursive long v xs ≡ [] → faults_from own_again rule recursive_again long_again v ys ≡ []
  fewer_marks v [] [] pairs none = refl
  fewer_marks v (x ∷ xs) (y ∷ ys) pairs none =
      joined_alike (name_faults rule (is_marked recursive v) (is_marked long v) (own x)) (faults_from own rule recursive long (v + 1) xs)
      (name_faults rule (is_marked recursive_again v) (is_marked long_again v) (own_again y)) (faults_from own_again rule recursive_again long_again (v + 1) ys)
      (joined_alike (only_if (is_marked recursive v && is_written (own x).location) (name_fault rule (own x))) (only_if (is_marked long v && is_written (own x).location) (long_chain (own x)))
      (only_if (is_marked recursive_again v && is_written (own_again y).location) (name_fault rule (own_again y)))
      (only_if (is_marked long_again v && is_written (own_again y).location) (long_chain (own_again y)))
      (only_weaker (is_marked recursive v) (is_marked recursive_again v) (is_written (own x).location) (is_written (own_again y).location) (name_fault rule (own x)) (name_fault rule (own_again y)) (cycles v) pairs.0)
      (only_weaker (is_marked long v) (is_marked long_again v) (is_written (own x).location) (is_written (own_again y).location) (long_chain (own x)) (long_chain (own_again y)) (chains v) pairs.0))
      (fewer_marks (v + 1) xs ys pairs.1) none
  fewer_marks v [] (y ∷ ys) pairs none = absurd pairs
  fewer_marks v (x ∷ xs) [] pairs none = absurd pairs

-- ---- marks of nodes of which something holds

pub marked_is : (o : Option Bool) → mark_of o ≡ true → o ≡ Some true
marked_is None is = absurd cc
marked_is (Some true) is = refl
marked_is (Some false) is = absurd cc

pub marked_holds : (Holds : ℕ → Type 0) (count : ℕ) (marks : List Bool) → AreMarked Holds count marks → (v : ℕ) → is_marked marks v ≡ true → Holds v
marked_holds Holds count marks are v is = are.only v (marked_is (slice_get marks v) is)

both_marked : (Holds : ℕ → Type 0) (count : ℕ) (marks again : List Bool) → AreMarked Holds count marks → AreMarked Holds count again → IsWithin again marks
both_marked Holds count marks again are too v is =
    let at : slice_get again v ≡ Some true = marked_is (slice_get again v) is in
    let inside : v < count = subst (λ n. v < n) too.as_many (slice_get_within again v true at) in
    ap mark_of (are.marked v inside (too.only v at))

-- where nothing is told of a graph's nodes, nothing is of the same nodes again
pub told_again : {X : Type 0} (own : X → Named) (rule : Rule) (g h : Graph) (named count : ℕ) (xs ys : List X) (told again : List DiagnosticData)
    → g ≡ h → named ≡ count → Paired (λ (x y : X). is_written (own x).location ≡ is_written (own y).location) xs ys
    → IsTold own rule g named xs told → IsTold own rule h count ys again → told ≡ [] → again ≡ []
told_again own rule g h named count xs ys told again graph as_many pairs one two none =
    let judged : AreJudged g named two.recursive two.long = subst (λ n. AreJudged g n two.recursive two.long) (sym as_many) (subst (λ k. AreJudged k count two.recursive two.long) (sym graph) two.judged) in
    two.whole
    ∙ fewer_marks own own rule one.recursive one.long two.recursive two.long
    (both_marked (IsOnCycle g) (length g) one.recursive two.recursive one.judged.on_cycles judged.on_cycles)
    (both_marked (λ v. (has_chain g named 32 v ≡ true) × (ReachesCycle g v → ⊥)) (length g) one.long two.long one.judged.on_chains judged.on_chains)
    0 xs ys pairs (sym one.whole ∙ none)

-- What the rules on spreads, on fragments and on variables tell is one list.
use Rattle.std.proofs.Common.{◌≡◌, ℕ, ◌+◌, suc, Bool, true, false, cond, if◌then◌else◌, List, [], ◌∷◌, ◌++◌, length, map, filter, flat_map, Option, Some, None, slice_get, All, refl, sym, ◌∙◌, ap, ap₂, subst, arith}
use Rattle.std.proofs.lemmas.Bool.Decides.{nat_tests}
use Rattle.std.proofs.lemmas.List.Elements.{All-head, All-tail}
use Rattle.std.proofs.lemmas.Option.{slice_get_within}
use Rattle.gql_diag_messages.specs.declared.diagnostic_data.DiagnosticData.{DiagnosticData}
use Rattle.gql_document_types.specs.Spreads.{spread_graph, spread_numbers}
use Rattle.gql_document_types.specs.declared.document.ExecutableDocument.{ExecutableDocument}
use Rattle.gql_document_types.specs.declared.fragment.Fragment.{Fragment}
use Rattle.gql_document_types.specs.declared.operation.Operation.{Operation}
use Rattle.gql_rules_nodes.specs.Reached.{AreReached, is_reached}
use Rattle.gql_rules_nodes.specs.RecursiveFragmentDefinition.{AreRecursive, long_from, recursive_from}
use Rattle.gql_rules_nodes.specs.SpreadFaults.{AreSpreadFaults}
use Rattle.gql_rules_nodes.specs.UndefinedFragment.{undefined_fragments}
use Rattle.gql_rules_nodes.specs.UnusedFragment.{AreUnused, unless_used, unreached_from}
use Rattle.gql_rules_nodes.specs.WayRound.{first_recursive}
use Rattle.gql_graph.specs.Cycles.{AreMarked}
use Rattle.gql_graph.specs.Flooding.{has}
use Rattle.gql_graph.specs.Graph.{Graph}
use Rattle.gql_rules.specs.UnusedVariable.{unused_variables}
use Rattle.gql_rules.specs.Uses.{Use, operation_uses, fragment_uses}
use Rattle.gql_rules.specs.VariableFaults.{AreVariableFaults, IsReach, Reach, fragments_faults, operation_faults, reached_uses, reaching, use_faults}
use Rattle.gql_schema_types.specs.declared.schema.Schema.{Schema}

-- ---- spreads

same_mark : (a b : Bool) → (a ≡ true → b ≡ true) → (b ≡ true → a ≡ true) → a ≡ b
same_mark true true f g = refl
same_mark false false f g = refl
same_mark true false f g = let e : false ≡ true = f refl in absurd cc
same_mark false true f g = let e : false ≡ true = g refl in absurd cc

same_marks : (xs ys : List Bool) → length xs ≡ length ys → ((v : ℕ) → slice_get xs v ≡ Some true → slice_get ys v ≡ Some true)
    → ((v : ℕ) → slice_get ys v ≡ Some true → slice_get xs v ≡ Some true) → xs ≡ ys
same_marks [] [] e f g = refl
same_marks [] (y ∷ ys) e f g = absurd (omega (arith, e))
same_marks (x ∷ xs) [] e f g = absurd (omega (arith, e))
same_marks (x ∷ xs) (y ∷ ys) e f g =
    ap₂ (λ (b : Bool) (bs : List Bool). b ∷ bs)
    (same_mark x y (λ is. let h : Some y ≡ Some true = f 0 (ap (λ (b : Bool). Some b) is) in cc) (λ is. let h : Some x ≡ Some true = g 0 (ap (λ (b : Bool). Some b) is) in cc))
    (same_marks xs ys (omega (arith, e)) (λ v. f (suc v)) (λ v. g (suc v)))

one_marking : (Holds : ℕ → Type 0) (count : ℕ) (one other : List Bool) → AreMarked Holds count one → AreMarked Holds count other → one ≡ other
one_marking Holds count one other h k =
    same_marks one other (h.as_many ∙ sym k.as_many)
    (λ v is. k.marked v (omega (arith, h.as_many, slice_get_within one v true is)) (h.only v is))
    (λ v is. h.marked v (omega (arith, k.as_many, slice_get_within other v true is)) (k.only v is))

recursive_once : (fragments : List Fragment) (one other : List DiagnosticData) → AreRecursive fragments one → AreRecursive fragments other → one ≡ other
recursive_once fragments one other h k =
    h.whole
    ∙ ap₂ (λ (r l : List Bool). recursive_from fragments r (first_recursive (spread_graph fragments) r) 0 fragments ++ long_from l 0 fragments)
    (one_marking _ _ h.recursive k.recursive h.judged.on_cycles k.judged.on_cycles)
    (one_marking _ _ h.long k.long h.judged.on_chains k.judged.on_chains)
    ∙ sym k.whole

pub spreads_once : (document : ExecutableDocument) (one other : List DiagnosticData) → AreSpreadFaults document one → AreSpreadFaults document other → one ≡ other
spreads_once document one other h k =
    h.whole ∙ ap (λ (l : List DiagnosticData). undefined_fragments document ++ l) (recursive_once document.fragments h.cycles k.cycles h.recursive k.recursive) ∙ sym k.whole

-- ---- what some nodes reach

is_one : (o : Option ℕ) → has 1 o ≡ true → o ≡ Some 1
is_one None is = let f : false ≡ true = is in absurd cc
is_one (Some n) is = let e : n ≡ 1 = grind (arith, nat_tests) in ap (λ (m : ℕ). Some m) e

-- the same nodes are reached by either marking
abbrev SameMarks : List ℕ → List ℕ → Type 0
SameMarks one other = (v : ℕ) → is_reached one v ≡ is_reached other v

reached_there : (g : Graph) (starts one other : List ℕ) → AreReached g starts one → AreReached g starts other → (v : ℕ) → is_reached one v ≡ true → is_reached other v ≡ true
reached_there g starts one other h k v is =
    let at : slice_get one v ≡ Some 1 = is_one (slice_get one v) is in
    ap (has 1) (k.reached v (omega (arith, h.as_many, slice_get_within one v 1 at)) (h.only v at))

same_reached : (g : Graph) (starts one other : List ℕ) → AreReached g starts one → AreReached g starts other → SameMarks one other
same_reached g starts one other h k v =
    same_mark (is_reached one v) (is_reached other v) (reached_there g starts one other h k v) (reached_there g starts other one k h v)

-- ---- fragments that are not used

unreached_same : (one other : List ℕ) → SameMarks one other → (v : ℕ) (fragments : List Fragment) → unreached_from one v fragments ≡ unreached_from other v fragments
unreached_same one other e v [] = refl
unreached_same one other e v (fragment ∷ fragments) =
    ap₂ (λ (b : Bool) (l : List DiagnosticData). unless_used b fragment ++ l) (e v) (unreached_same one other e (v + 1) fragments)

pub unused_once : (document : ExecutableDocument) (one other : List DiagnosticData) → AreUnused document one → AreUnused document other → one ≡ other
unused_once document one other h k =
    h.whole ∙ unreached_same h.states k.states (same_reached _ _ h.states k.states h.used k.used) 0 document.fragments ∙ sym k.whole

-- ---- variables

record SameReach (one other : Reach) : Type 0 where
  operation : one.operation ≡ other.operation
  states : SameMarks one.states other.states

abbrev AllSame : List Reach → List Reach → Type 0
AllSame [] [] = Unit {0}
AllSame [] (y ∷ ys) = ⊥
AllSame (x ∷ xs) [] = ⊥
AllSame (x ∷ xs) (y ∷ ys) = SameReach x y × AllSame xs ys

abbrev its_operation : Reach → Operation
its_operation reach = reach.operation

same_reach : (fragments : List Fragment) (x y : Reach) → x.operation ≡ y.operation → IsReach fragments x → IsReach fragments y → SameReach x y
same_reach fragments x y e h k = record {
  operation = e;
  states = same_reached (spread_graph fragments) (spread_numbers fragments y.operation.selection_set.selections) x.states y.states
      (subst (λ (o : Operation). AreReached (spread_graph fragments) (spread_numbers fragments o.selection_set.selections) x.states) e h) k;
}

all_same : (fragments : List Fragment) (xs ys : List Reach) → map its_operation xs ≡ map its_operation ys → All (IsReach fragments) xs → All (IsReach fragments) ys → AllSame xs ys
all_same fragments [] [] e h k = tt
all_same fragments [] (y ∷ ys) e h k = let f : [] ≡ y.operation ∷ map its_operation ys = e in absurd cc
all_same fragments (x ∷ xs) [] e h k = let f : x.operation ∷ map its_operation xs ≡ [] = e in absurd cc
all_same fragments (x ∷ xs) (y ∷ ys) e h k =
    let f : x.operation ∷ map its_operation xs ≡ y.operation ∷ map its_operation ys = e in
    let first : x.operation ≡ y.operation = cc in
    let rest : map its_operation xs ≡ map its_operation ys = cc in (
      same_reach fragments x y first (All-head (IsReach fragments) x xs h) (All-head (IsReach fragments) y ys k),
      all_same fragments xs ys rest (All-tail (IsReach fragments) x xs h) (All-tail (IsReach fragments) y ys k),
    )

module _ (schema : Schema) where
  reached_uses_same : (one other : List ℕ) → SameMarks one other → (v : ℕ) (fragments : List Fragment) → reached_uses schema one v fragments ≡ reached_uses schema other v fragments
  reached_uses_same one other e v [] = refl
  reached_uses_same one other e v (fragment ∷ fragments) =
      ap₂ (λ (b : Bool) (us : List Use). (if b then fragment_uses schema fragment else []) ++ us) (e v) (reached_uses_same one other e (v + 1) fragments)

  operation_same : (fragments : List Fragment) (x y : Reach) → SameReach x y → operation_faults schema fragments x ≡ operation_faults schema fragments y
  operation_same fragments x y s =
      ap₂ (λ (o : Operation) (us : List Use). flat_map (use_faults schema (o ∷ [])) (operation_uses schema o) ++ unused_variables (operation_uses schema o ++ us) o.variables)
      s.operation (reached_uses_same x.states y.states s.states 0 fragments)

  operations_same : (fragments : List Fragment) (xs ys : List Reach) → AllSame xs ys → flat_map (operation_faults schema fragments) xs ≡ flat_map (operation_faults schema fragments) ys
  operations_same fragments [] [] s = refl
  operations_same fragments [] (y ∷ ys) s = absurd s
  operations_same fragments (x ∷ xs) [] s = absurd s
  operations_same fragments (x ∷ xs) (y ∷ ys) s =
      ap₂ (λ (a b : List DiagnosticData). a ++ b) (operation_same fragments x y s.0) (operations_same fragments xs ys s.1)

  fragments_same : (xs ys : List Reach) → ((v : ℕ) → reaching xs v ≡ reaching ys v) → (v : ℕ) (fragments : List Fragment) → fragments_faults schema xs v fragments ≡ fragments_faults schema ys v fragments
  fragments_same xs ys e v [] = refl
  fragments_same xs ys e v (fragment ∷ fragments) =
      ap₂ (λ (os : List Operation) (l : List DiagnosticData). flat_map (use_faults schema os) (fragment_uses schema fragment) ++ l) (e v) (fragments_same xs ys e (v + 1) fragments)

one_kept : (b : Bool) (x : Reach) (xs : List Reach) → map its_operation (cond b (x ∷ xs) xs) ≡ cond b (x.operation ∷ map its_operation xs) (map its_operation xs)
one_kept true x xs = refl
one_kept false x xs = refl

reaching_same : (xs ys : List Reach) → AllSame xs ys → (v : ℕ) → reaching xs v ≡ reaching ys v
reaching_same [] [] s v = refl
reaching_same [] (y ∷ ys) s v = absurd s
reaching_same (x ∷ xs) [] s v = absurd s
reaching_same (x ∷ xs) (y ∷ ys) s v =
    let marks : is_reached x.states v ≡ is_reached y.states v = s.0.states v in
    let first : x.operation ≡ y.operation = s.0.operation in
    let rest : reaching xs v ≡ reaching ys v = reaching_same xs ys s.1 v in
    one_kept (is_reached x.states v) x (filter (λ (reach : Reach). is_reached reach.states v) xs)
    ∙ (λ i. cond (marks i) (first i ∷ rest i) (rest i))
    ∙ sym (one_kept (is_reached y.states v) y (filter (λ (reach : Reach). is_reached reach.states v) ys))

pub variables_once : (schema : Schema) (document : ExecutableDocument) (one other : List DiagnosticData) → AreVariableFaults schema document one → AreVariableFaults schema document other → one ≡ other
variables_once schema document one other h k =
    let same = all_same document.fragments h.reaches k.reaches (h.of_operations ∙ sym k.of_operations) h.reached k.reached in
    h.whole
    ∙ ap₂ (λ (a b : List DiagnosticData). a ++ b) (operations_same schema document.fragments h.reaches k.reaches same)
    (fragments_same schema h.reaches k.reaches (reaching_same h.reaches k.reaches same) 0 document.fragments)
    ∙ sym k.whole

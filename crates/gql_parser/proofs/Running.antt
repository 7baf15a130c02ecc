-- What a document without a fault gives execution.
use Rattle.std.proofs.Common.{◌≡◌, ◌<◌, ◌+◌, ℕ, zero, suc, Bool, true, false, if◌then◌else◌, List, [], ◌∷◌, length, flat_map, Option, Some, None, All, Result, Ok, Err, IfOk, refl, sym, ◌∙◌, ap, subst, arith}
use Rattle.std.specs.Option.{option_map_or}
use Rattle.std.proofs.lemmas.List.{length-map}
use Rattle.std.proofs.lemmas.List.Elements.{All-append, All-cons, All-nil}
use Rattle.gql_ast_base.specs.Names.{Named}
use Rattle.gql_ast.specs.declared.operation.OperationDefinition.{OperationDefinition}
use Rattle.gql_diag_messages.specs.declared.diagnostic_data.DiagnosticData.{DiagnosticData}
use Rattle.gql_document.specs.AmbiguousAnonymousOperation.{are_several, is_ambiguous}
use Rattle.gql_document.specs.Build.{built_operation, built_operations, operation_on}
use Rattle.gql_document.specs.Builders.{Taken}
use Rattle.gql_document.specs.OperationNameCollision.{first_operations}
use Rattle.gql_document.specs.UndefinedRootOperation.{root_type}
use Rattle.gql_document_types.specs.Spreads.{spread_graph, spreads_in, AreAcyclic}
use Rattle.gql_document_types.specs.declared.document.ExecutableDocument.{ExecutableDocument}
use Rattle.gql_document_types.specs.declared.fragment.Fragment.{Fragment}
use Rattle.gql_document_types.specs.Ranks.{AreRanked}
use Rattle.gql_rules.specs.DocumentFaults.{AreDocumentFaults, AreFirstOrAll, AreOtherFaults}
use Rattle.gql_rules_values.specs.Faults.{only_if}
use Rattle.gql_rules_nodes.specs.RecursiveFragmentDefinition.{AreRecursive, long_from, recursive_fault, recursive_from}
use Rattle.gql_rules_nodes.specs.SpreadFaults.{AreSpreadFaults}
use Rattle.gql_rules_nodes.specs.UndefinedFragment.{undefined_fragments}
use Rattle.gql_rules_nodes.specs.WayRound.{first_recursive}
use Rattle.gql_graph.specs.Chains.{is_marked, mark_of}
use Rattle.gql_graph.specs.Cycles.{IsOnCycle}
use Rattle.gql_graph.specs.Graph.{Graph}
use Rattle.gql_graph.proofs.Walks.{from_node}
use Rattle.gql_graph.specs.Ranks.{IsRanked}
use Rattle.gql_schema_types.specs.declared.schema.Schema.{Schema}
use Rattle.jb_text.specs.declared.refused.Refused.{Refused}
use Rattle.gql_diag.specs.List.{Diagnostics}
use Rattle.gql_parser.specs.DocumentAnswers.{IsDocumentAnswer}
use Rattle.gql_parser.specs.DocumentText.{DocumentText, AreDefinitions}
use Rattle.gql_parser.specs.Running.{AreOnRoots, IsOnRoot}
use Rattle.gql_parser.proofs.Phases.{front_none, back_none}

-- ---- nothing is wrong with the spreads

no_spread_fault : (schema : Schema) (document : ExecutableDocument) → AreDocumentFaults schema document [] → AreSpreadFaults document []
no_spread_fault schema document are = by_spreads are.spreads are.are_spreads are.whole
  where
    by_spreads : (spreads : List DiagnosticData) → AreSpreadFaults document spreads → AreFirstOrAll (AreOtherFaults schema document) spreads [] → AreSpreadFaults document []
    by_spreads [] faults whole = faults
    by_spreads (first ∷ firsts) faults whole = let none : [] ≡ first ∷ firsts = whole in absurd cc

pub spreads_defined : (schema : Schema) (document : ExecutableDocument) → AreDocumentFaults schema document [] → undefined_fragments document ≡ []
spreads_defined schema document are = let s = no_spread_fault schema document are in front_none (undefined_fragments document) s.cycles (sym s.whole)

none_recursive : (schema : Schema) (document : ExecutableDocument) → AreDocumentFaults schema document [] → AreRecursive document.fragments []
none_recursive schema document are =
    let s = no_spread_fault schema document are in subst (AreRecursive document.fragments) (back_none (undefined_fragments document) s.cycles (sym s.whole)) s.recursive

-- ---- so none leads back to itself

unmarked : (b : Bool) (fault : DiagnosticData) → only_if b fault ≡ [] → b ≡ false
unmarked true fault none = let e : fault ∷ [] ≡ [] = none in absurd cc
unmarked false fault none = refl

none_marked : (fragments : List Fragment) (recursive : List Bool) (nexts : List (Option ℕ)) (v : ℕ) (xs : List Fragment) → recursive_from fragments recursive nexts v xs ≡ []
    → (u k : ℕ) → u ≡ v + k → k < length xs → is_marked recursive u ≡ false
none_marked fragments recursive nexts v [] none u k is inside = absurd (omega (arith, inside))
none_marked fragments recursive nexts v (x ∷ xs) none u zero is inside =
    let here : u ≡ v = omega (arith, is) in
    ap (is_marked recursive) here
    ∙ unmarked (is_marked recursive v) (recursive_fault fragments nexts v x)
    (front_none (only_if (is_marked recursive v) (recursive_fault fragments nexts v x)) (recursive_from fragments recursive nexts (v + 1) xs) none)
none_marked fragments recursive nexts v (x ∷ xs) none u (suc k) is inside =
    none_marked fragments recursive nexts (v + 1) xs
    (back_none (only_if (is_marked recursive v) (recursive_fault fragments nexts v x)) (recursive_from fragments recursive nexts (v + 1) xs) none)
    u k (omega (arith, is)) (omega (arith, inside))

no_cycle : (fragments : List Fragment) → AreRecursive fragments [] → AreAcyclic fragments
no_cycle fragments are v cycle =
    let nexts = first_recursive (spread_graph fragments) are.recursive in
    let none : recursive_from fragments are.recursive nexts 0 fragments ≡ [] =
    front_none (recursive_from fragments are.recursive nexts 0 fragments) (long_from are.long 0 fragments) (sym are.whole) in
    let inside : v < length (spread_graph fragments) = from_node (spread_graph fragments) v cycle.0 cycle.1 in
    let marked : is_marked are.recursive v ≡ true = ap mark_of (are.judged.on_cycles.marked v inside cycle) in
    let unmarked : is_marked are.recursive v ≡ false =
    none_marked fragments are.recursive nexts 0 fragments none v v (omega arith) (omega (arith, inside, length-map fragments (spreads_in fragments))) in
    let e : true ≡ false = sym marked ∙ unmarked in absurd cc

pub acyclic : (schema : Schema) (text : List ℕ) (document : ExecutableDocument) → DocumentText schema text document → AreAcyclic document.fragments
acyclic schema text document means = no_cycle document.fragments (none_recursive schema document means.holds)

pub acyclic_answer : (schema : Schema) (text : List ℕ) (result : Result ExecutableDocument (Refused Diagnostics)) → IsDocumentAnswer schema text result
    → IfOk result (λ (document : ExecutableDocument). AreAcyclic document.fragments)
acyclic_answer schema text (Ok document) means = acyclic schema text document means
acyclic_answer schema text (Err refused) answer = tt

abbrev pub RanksLaw : Type 0
RanksLaw = (g : Graph) → ((v : ℕ) → IsOnCycle g v → ⊥) → (rank : ℕ → ℕ) × IsRanked g rank

pub ranked : RanksLaw → (schema : Schema) (text : List ℕ) (document : ExecutableDocument) → DocumentText schema text document → (rank : ℕ → ℕ) × AreRanked document.fragments rank
ranked law schema text document means =
    let ranks = law (spread_graph document.fragments) (acyclic schema text document means) in (
      ranks.0,
      record {
        falls = ranks.1.falls;
        bounded = λ a. omega (arith, ranks.1.bounded a, length-map document.fragments (spreads_in document.fragments));
      },
    )

-- ---- and each operation is on a root type

module _ (schema : Schema) where
  on_root : (several : Bool) (it : OperationDefinition) → All (IsOnRoot schema) (built_operation schema several it)
  on_root several it = by_name (is_ambiguous several it)
    where
      by_root : (root : Option Named) → root_type schema it ≡ root → All (IsOnRoot schema) (option_map_or (λ (r : Named). operation_on schema r it ∷ []) root [])
      by_root (Some root) is = All-cons (IsOnRoot schema) (operation_on schema root it) [] is (All-nil (IsOnRoot schema))
      by_root None is = All-nil (IsOnRoot schema)

      by_name : (b : Bool) → All (IsOnRoot schema) (if b then [] else option_map_or (λ (r : Named). operation_on schema r it ∷ []) (root_type schema it) [])
      by_name true = All-nil (IsOnRoot schema)
      by_name false = by_root (root_type schema it) refl

  all_on_roots : (several : Bool) (operations : List OperationDefinition) → All (IsOnRoot schema) (flat_map (built_operation schema several) operations)
  all_on_roots several [] = All-nil (IsOnRoot schema)
  all_on_roots several (it ∷ operations) =
      All-append (IsOnRoot schema) (built_operation schema several it) (flat_map (built_operation schema several) operations) (on_root several it) (all_on_roots several operations)

its_schema : (schema : Schema) (text : List ℕ) (taken : Taken) → AreDefinitions schema text taken → taken.schema ≡ schema
its_schema schema text taken definitions = ap (λ (t : Taken). t.schema) definitions.all

pub roots : (schema : Schema) (text : List ℕ) (document : ExecutableDocument) → DocumentText schema text document → AreOnRoots schema document
roots schema text document means =
    let taken = means.taken in
    let first = first_operations taken.definitions.operations in
    subst (λ (d : ExecutableDocument). All (IsOnRoot schema) d.operations) (sym means.is)
    (subst (λ (s : Schema). All (IsOnRoot schema) (built_operations s first)) (sym (its_schema schema text taken means.definitions)) (all_on_roots schema (are_several first) first))

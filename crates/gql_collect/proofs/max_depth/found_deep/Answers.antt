use Rattle.std.proofs.Common.{arith, ◌≡◌, ℕ, List, length, replicate, Some, None, refl, sym, ap, ◌∙◌, subst}
use Rattle.std.proofs.lemmas.List.{length-map}
use Rattle.gql_document_types.specs.Spreads.{spread_graph}
use Rattle.gql_document_types.specs.declared.fragment.Fragment.{Fragment}
use Rattle.gql_collect.specs.bridge.Check.{Memo}
use Rattle.gql_collect.specs.bridge.Checked.{Accepted, Refused}
use Rattle.gql_collect.specs.Nested.{Nested, Fragments, Place}
use Rattle.gql_collect.specs.View.{nested, body_nested, fragments_nested}
use Rattle.gql_collect.proofs.DepthFacts.{accepts-low, refuses-high, accepts-cost, refuses-cost}
use Rattle.gql_collect.proofs.PlaceFacts.{refuses-place}
use Rattle.gql_collect.proofs.Ranked.{fragments-ranked}
use Rattle.gql_collect.proofs.max_depth.found_deep.Goals as goal

-- the memo that the walk begins with has nothing of any fragment
begun : (all : List Fragment) (m : Memo) (n : ℕ) → m ≡ replicate n None → n ≡ length all → m ≡ replicate (length (fragments_nested all)) None
begun all m n is long = is ∙ ap (λ k. replicate k None) (long ∙ sym (length-map all (body_nested all)))

accepted : (fragments : Fragments) (s : Nested) (m : Memo) (t d : ℕ) (n : Memo) (u : ℕ) → m ≡ replicate (length fragments) None → Accepted fragments 0 s m t d n u
    → Accepted fragments 0 s (replicate (length fragments) None) t d n u
accepted fragments s m t d n u is found = subst (λ l. Accepted fragments 0 s l t d n u) is found

refused : (fragments : Fragments) (s : Nested) (m : Memo) (t : ℕ) (at : Place) (u : ℕ) → m ≡ replicate (length fragments) None → Refused fragments 0 s m t at u
    → Refused fragments 0 s (replicate (length fragments) None) t at u
refused fragments s m t at u is found = subst (λ l. Refused fragments 0 s l t at u) is found

pub returns-in-Ok-clause-found : goal.returns-in-Ok-clause-found
returns-in-Ok-clause-found g c =
    let all = c.args.fragments.now in
    let ranked = c.acyclic_graphs_have_ranks.ensures (spread_graph all) c.requires.acyclic in
    let start = begun all c.as_mut_slice.result.now c.len.result (c.as_mut_slice.ensures.value ∙ c.in_ok-memo.ensures.items_if_clones_equal (elim [ None ↦ λ e. refl | Some x ↦ λ e. absurd e ])) c.len.ensures.value in
    accepts-low (fragments_nested all) ranked.0 (fragments-ranked all ranked.0 ranked.1)
    (accepted (fragments_nested all) (nested all c.args.selections.now) c.as_mut_slice.result.now c.args.steps.now c.in-Ok.field-0 c.selection_set.new.memo c.selection_set.new.steps start c.in-Ok.ensures).accepts

pub returns-in-Ok-clause-looks : goal.returns-in-Ok-clause-looks
returns-in-Ok-clause-looks g c =
    let all = c.args.fragments.now in
    let start = begun all c.as_mut_slice.result.now c.len.result (c.as_mut_slice.ensures.value ∙ c.in_ok-memo.ensures.items_if_clones_equal (elim [ None ↦ λ e. refl | Some x ↦ λ e. absurd e ])) c.len.ensures.value in
    let found = accepted (fragments_nested all) (nested all c.args.selections.now) c.as_mut_slice.result.now c.args.steps.now c.in-Ok.field-0 c.selection_set.new.memo c.selection_set.new.steps start c.in-Ok.ensures in
    omega (arith, found.looks, accepts-cost found.accepts)

pub returns-clause-found : goal.returns-clause-found
returns-clause-found g c =
    let all = c.args.fragments.now in
    let ranked = c.acyclic_graphs_have_ranks.ensures (spread_graph all) c.requires.acyclic in
    let start = begun all c.as_mut_slice.result.now c.len.result (c.as_mut_slice.ensures.value ∙ c.in_ok-memo.ensures.items_if_clones_equal (elim [ None ↦ λ e. refl | Some x ↦ λ e. absurd e ])) c.len.ensures.value in
    let found = refused (fragments_nested all) (nested all c.args.selections.now) c.as_mut_slice.result.now c.args.steps.now c.in-Err.place c.selection_set.new.steps start c.in-Err.ensures in
    record {
      deep = refuses-high (fragments_nested all) ranked.0 (fragments-ranked all ranked.0 ranked.1) found.refuses;
      first = refuses-place (fragments_nested all) ranked.0 (fragments-ranked all ranked.0 ranked.1) (nested all c.args.selections.now) c.in-Err.place _ found.refuses;
    }

pub returns-clause-looks : goal.returns-clause-looks
returns-clause-looks g c =
    let all = c.args.fragments.now in
    let start = begun all c.as_mut_slice.result.now c.len.result (c.as_mut_slice.ensures.value ∙ c.in_ok-memo.ensures.items_if_clones_equal (elim [ None ↦ λ e. refl | Some x ↦ λ e. absurd e ])) c.len.ensures.value in
    let found = refused (fragments_nested all) (nested all c.args.selections.now) c.as_mut_slice.result.now c.args.steps.now c.in-Err.place c.selection_set.new.steps start c.in-Err.ensures in
    omega (arith, found.looks, refuses-cost found.refuses)

pub returns-in-Ok-clause-rises : goal.returns-in-Ok-clause-rises
returns-in-Ok-clause-rises g c = omega (arith, c.in-Ok.ensures.looks)

pub returns-clause-rises : goal.returns-clause-rises
returns-clause-rises g c = omega (arith, c.in-Err.ensures.looks)

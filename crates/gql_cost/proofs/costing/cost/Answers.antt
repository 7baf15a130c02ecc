use Rattle.std.proofs.Common.{arith, suc, Some, None, refl, sym, ◌∙◌, subst}
use Rattle.gql_document_types.specs.Contents.{HaveContents}
use Rattle.gql_document_types.specs.Spreads.{spread_graph}
use Rattle.gql_document_types.specs.declared.document.ExecutableDocument.{ExecutableDocument}
use Rattle.gql_cost.specs.bridge.Walked.{HaveSums}
use Rattle.gql_cost.proofs.Walks.{right-start}
use Rattle.gql_cost.proofs.Whole.{have-sums, walked-in, looks-all, cost-is, cost-within, cost-above}
use Rattle.gql_cost.proofs.costing.cost.Goals as goal

pub all-sum-requires-clause-contents : goal.all-sum-requires-clause-contents
all-sum-requires-clause-contents g c =
    subst (λ (d : ExecutableDocument). HaveContents d.fragments) (sym c.as_ref.ensures)
    (c.acyclic_fragments_have_contents.ensures c.args.document.now.fragments c.requires.acyclic)

pub all-sum-requires-clause-sums : goal.all-sum-requires-clause-sums
all-sum-requires-clause-sums g c =
    let ranked = c.acyclic_graphs_have_ranks.ensures (spread_graph c.args.document.now.fragments) c.requires.acyclic in
    subst (λ (d : ExecutableDocument). HaveSums c.args.items d.fragments) (sym c.as_ref.ensures)
    (have-sums c.args.items c.args.document.now.fragments ranked.0 ranked.1)

pub all-sum-requires-clause-right : goal.all-sum-requires-clause-right
all-sum-requires-clause-right g c =
    right-start c.args.items (suc c.args.limit) c.as_ref.result.now.fragments c.as_mut_slice.result.now c.len.result
    (c.as_mut_slice.ensures.value ∙ c.in_ok-memo.ensures.items_if_clones_equal (elim [ None ↦ λ e. refl | Some x ↦ λ e. absurd e ]))
    c.len.ensures.value

pub returns-in_default-clause-refused : goal.returns-in_default-clause-refused
returns-in_default-clause-refused g c =
    cost-above c.args.items c.args.limit c.args.document.now.fragments c.args.operation.now.selection_set.selections c.as_mut_slice.result.now c.args.steps.now c.all-sum.result
    c.all-sum.new.memo c.all-sum.new.steps
    (walked-in c.args.items c.args.limit c.as_ref.result.now c.args.document.now c.args.operation.now.selection_set.selections c.as_mut_slice.result.now c.args.steps.now
    c.all-sum.result c.all-sum.new.memo c.all-sum.new.steps c.as_ref.ensures c.all-sum.ensures) (omega (arith, c.in_default.ensures, c.ranges.limit.fits))

pub returns-in_default-clause-looks : goal.returns-in_default-clause-looks
returns-in_default-clause-looks g c =
    looks-all c.args.items c.args.limit c.args.document.now.fragments c.args.operation.now.selection_set.selections c.as_mut_slice.result.now c.args.steps.now c.all-sum.result
    c.all-sum.new.memo c.all-sum.new.steps
    (walked-in c.args.items c.args.limit c.as_ref.result.now c.args.document.now c.args.operation.now.selection_set.selections c.as_mut_slice.result.now c.args.steps.now
    c.all-sum.result c.all-sum.new.memo c.all-sum.new.steps c.as_ref.ensures c.all-sum.ensures)

pub returns-then-cost-limit-clause-is : goal.returns-then-cost-limit-clause-is
returns-then-cost-limit-clause-is g c =
    cost-is c.args.items c.args.limit c.args.document.now.fragments c.args.operation.now.selection_set.selections c.as_mut_slice.result.now c.args.steps.now c.all-sum.result
    c.all-sum.new.memo c.all-sum.new.steps
    (walked-in c.args.items c.args.limit c.as_ref.result.now c.args.document.now c.args.operation.now.selection_set.selections c.as_mut_slice.result.now c.args.steps.now
    c.all-sum.result c.all-sum.new.memo c.all-sum.new.steps c.as_ref.ensures c.all-sum.ensures) c.in-Ok.cost c.in-Ok.ensures.1 c.if-cost-limit.true

pub returns-then-cost-limit-clause-within : goal.returns-then-cost-limit-clause-within
returns-then-cost-limit-clause-within g c =
    cost-within c.args.items c.args.limit c.args.document.now.fragments c.args.operation.now.selection_set.selections c.as_mut_slice.result.now c.args.steps.now c.all-sum.result
    c.all-sum.new.memo c.all-sum.new.steps
    (walked-in c.args.items c.args.limit c.as_ref.result.now c.args.document.now c.args.operation.now.selection_set.selections c.as_mut_slice.result.now c.args.steps.now
    c.all-sum.result c.all-sum.new.memo c.all-sum.new.steps c.as_ref.ensures c.all-sum.ensures) c.in-Ok.cost c.in-Ok.ensures.1 c.if-cost-limit.true

pub returns-then-cost-limit-clause-looks : goal.returns-then-cost-limit-clause-looks
returns-then-cost-limit-clause-looks g c =
    looks-all c.args.items c.args.limit c.args.document.now.fragments c.args.operation.now.selection_set.selections c.as_mut_slice.result.now c.args.steps.now c.all-sum.result
    c.all-sum.new.memo c.all-sum.new.steps
    (walked-in c.args.items c.args.limit c.as_ref.result.now c.args.document.now c.args.operation.now.selection_set.selections c.as_mut_slice.result.now c.args.steps.now
    c.all-sum.result c.all-sum.new.memo c.all-sum.new.steps c.as_ref.ensures c.all-sum.ensures)

pub returns-clause-refused : goal.returns-clause-refused
returns-clause-refused g c =
    cost-above c.args.items c.args.limit c.args.document.now.fragments c.args.operation.now.selection_set.selections c.as_mut_slice.result.now c.args.steps.now c.all-sum.result
    c.all-sum.new.memo c.all-sum.new.steps
    (walked-in c.args.items c.args.limit c.as_ref.result.now c.args.document.now c.args.operation.now.selection_set.selections c.as_mut_slice.result.now c.args.steps.now
    c.all-sum.result c.all-sum.new.memo c.all-sum.new.steps c.as_ref.ensures c.all-sum.ensures) (omega (arith, c.in-Ok.ensures, c.if-cost-limit.false))

pub returns-clause-looks : goal.returns-clause-looks
returns-clause-looks g c =
    looks-all c.args.items c.args.limit c.args.document.now.fragments c.args.operation.now.selection_set.selections c.as_mut_slice.result.now c.args.steps.now c.all-sum.result
    c.all-sum.new.memo c.all-sum.new.steps
    (walked-in c.args.items c.args.limit c.as_ref.result.now c.args.document.now c.args.operation.now.selection_set.selections c.as_mut_slice.result.now c.args.steps.now
    c.all-sum.result c.all-sum.new.memo c.all-sum.new.steps c.as_ref.ensures c.all-sum.ensures)

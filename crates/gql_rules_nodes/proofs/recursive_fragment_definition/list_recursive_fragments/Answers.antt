use Rattle.std.proofs.Common.{◌++◌, ap, ◌∙◌, subst}
use Rattle.std.proofs.lemmas.Result.{on_ok_weaker}
use Rattle.gql_document_types.specs.Spreads.{spread_graph}
use Rattle.gql_graph.specs.Chains.{AreJudged}
use Rattle.gql_rules_nodes.specs.RecursiveFragmentDefinition.{recursive_from, long_from}
use Rattle.gql_rules_nodes.specs.WayRound.{first_recursive}
use Rattle.gql_rules_nodes.proofs.CycleTold.{told}
use Rattle.gql_rules_nodes.proofs.recursive_fragment_definition.list_recursive_fragments.Goals as goal

pub returns : goal.returns
returns c =
    let fragments = c.args.fragments.now in
    let graph = spread_graph fragments in
    let recursive = c.in_ok-judged.judged.recursive.items in
    let long = c.in_ok-judged.judged.long.items in
    let nexts = c.in_ok-nexts.nexts in
    let before = c.args.faults.now in
    let mid = c.list_recursive.new.faults in
    let judged = subst (λ n. AreJudged graph n recursive long) c.len.ensures.value (subst (λ g. AreJudged g c.len.result recursive long) c.in_ok-graph.ensures c.in_ok-judged.ensures) in
    on_ok_weaker c.list_long.result
    (λ e. told fragments recursive long nexts before mid c.list_long.new.faults judged
    (c.in_ok-nexts.ensures ∙ ap (λ g. first_recursive g c.as_slice-recursive.result.now) c.in_ok-graph.ensures ∙ ap (first_recursive graph) c.as_slice-recursive.ensures.value)
    (c.in_ok-list_recursive.ensures ∙ ap (λ r. before ++ recursive_from fragments r c.as_slice.result.now 0 fragments) c.as_slice-recursive.ensures.value
    ∙ ap (λ n. before ++ recursive_from fragments recursive n 0 fragments) c.as_slice.ensures)
    (e ∙ ap (λ l. mid ++ long_from l 0 c.as_slice-3.result.now) c.as_slice-2.ensures.value ∙ ap (λ f. mid ++ long_from long 0 f) c.as_slice-3.ensures.entries))
    c.list_long.ensures

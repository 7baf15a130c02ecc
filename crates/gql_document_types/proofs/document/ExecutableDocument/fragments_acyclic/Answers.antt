use Rattle.std.proofs.Common.{subst, ap, ◌∙◌}
use Rattle.std.specs.List.{list_any}
use Rattle.gql_graph.specs.Chains.{AreJudged}
use Rattle.gql_document_types.proofs.Spread.{told}
use Rattle.gql_document_types.proofs.document.ExecutableDocument.fragments_acyclic.Goals as goal

pub returns : goal.returns
returns c =
    let recursive = c.in_ok-judged.judged.recursive.items in
    let long = c.in_ok-judged.judged.long.items in
    told c.args.self.now.fragments c.len.result recursive long c.any_marked-cyclic.result
    (subst (λ g. AreJudged g c.len.result recursive long) c.in_ok-graph.ensures c.in_ok-judged.ensures)
    (c.any_marked-cyclic.ensures ∙ ap (list_any (λ mark. mark)) c.as_slice.ensures.value)

use Rattle.std.proofs.Common.{false, replicate, ap, ◌∙◌}
use Rattle.gql_graph.proofs.Ends.{judged_flat}
use Rattle.gql_graph.proofs.chains.judge_flat.Goals as goal

pub returns : goal.returns
returns c =
    judged_flat c.args.graph.now c.args.named c.in_ok-recursive.recursive.items c.in_ok-long.long.items c.requires
    (c.in_ok-recursive.ensures.items_if_clones_equal (λ y e. e) ∙ ap (λ n. replicate n false) c.len.ensures)
    (c.in_ok-long.ensures.items_if_clones_equal (λ y e. e) ∙ ap (λ n. replicate n false) c.len-2.ensures)

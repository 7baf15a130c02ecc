use Rattle.std.proofs.Common.{sym, subst, arith}
use Rattle.gql_graph.specs.bridge.Cycles.{HasPart}
use Rattle.gql_graph.proofs.Cyclic.{written}
use Rattle.gql_graph.proofs.cycles.parts.Goals as goal

pub returns-clause-all : goal.returns-clause-all
returns-clause-all c v within =
    let new = c.take_each.new.parts in
    subst (λ l. HasPart l v) (sym (written c.in_ok-parts.parts.len new _ (omega arith))) (c.in_ok-take_each.ensures.all v within)

use Rattle.std.proofs.Common.{List, ℕ, rules}
use Rattle.std.proofs.lemmas.Fn.{always_returns_same}
use Rattle.jb_map.specs.ByKey.{is_below}
use Rattle.jb_map.proofs.SortLemmas.{pairs_order, sorted_is}
use Rattle.jb_map.proofs.order.sort_pairs.Goals as goal

pub returns-clause-sorted : goal.returns-clause-sorted
returns-clause-sorted g c =
    let lt = λ (p q : List ℕ × g.row.V.Denot). is_below p.0 q.0 in
    sorted_is c.args.held.now.items c.sort_by.new.self.items c.requires c.sort_by.ensures.permutation
    (c.in_ok-sort_by.ensures.sorted lt pairs_order (always_returns_same _ _ _ (λ a r f' k. search rules)))

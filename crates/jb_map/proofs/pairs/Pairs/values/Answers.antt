use Rattle.std.proofs.Common.{◌∙◌}
use Rattle.indexmap.proofs.ReorderLemmas.{parts}
use Rattle.jb_map.proofs.pairs.Pairs.values.Goals as goal

pub returns : goal.returns
returns g c =
    let o = parts _ _ _ c.self.view_is c.self.invariant in
    c.new.ensures ∙ c.as_slice.ensures.value ∙ o.values

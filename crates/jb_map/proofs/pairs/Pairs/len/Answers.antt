use Rattle.std.proofs.Common.{subst, ◌∙◌}
use Rattle.std.specs.List.{IsDistinct}
use Rattle.std.specs.Str.{bytes_eq}
use Rattle.indexmap.proofs.ReorderLemmas.{parts}
use Rattle.jb_map.proofs.pairs.Pairs.len.Goals as goal

pub returns : goal.returns
returns g c =
    let o = parts _ _ _ c.self.view_is c.self.invariant in
    record { value = c.len.ensures.value ∙ o.keys_length; distinct = subst (IsDistinct bytes_eq) o.keys c.len.ensures.distinct }

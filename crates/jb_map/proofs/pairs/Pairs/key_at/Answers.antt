use Rattle.std.proofs.Common.{slice_get, sym, ap, ◌∙◌, arith}
use Rattle.indexmap.proofs.ReorderLemmas.{parts}
use Rattle.jb_map.proofs.pairs.Pairs.key_at.Goals as goal

pub at-requires : goal.at-requires
at-requires g c =
    let o = parts _ _ _ c.self.view_is c.self.invariant in
    omega (arith, o.keys_length, c.requires)

pub returns : goal.returns
returns g c =
    let o = parts _ _ _ c.self.view_is c.self.invariant in
    ap (λ l. slice_get l c.args.index) (sym o.keys) ∙ c.at.ensures

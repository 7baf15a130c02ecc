use Rattle.std.proofs.Common.{◌<◌, length, slice_get, sym, ap, ◌∙◌, arith}
use Rattle.indexmap.proofs.ReorderLemmas.{parts}
use Rattle.std_collections.proofs.Zip.{slice_get_at}
use Rattle.jb_map.proofs.pairs.Pairs.value_at.Goals as goal

pub index-requires : goal.index-requires
index-requires g c =
    let o = parts _ _ _ c.self.view_is c.self.invariant in
    omega (arith, o.values_length, c.self.inside.values.ok.0, c.requires)

pub returns : goal.returns
returns g c =
    let o = parts _ _ _ c.self.view_is c.self.invariant in
    let vs = c.self.inside.values.items in
    let i = c.args.index in
    let within : i < length vs = omega (arith, o.values_length, c.requires) in
    ap (λ l. slice_get l i) (sym o.values) ∙ slice_get_at vs i _ within c.index.ensures

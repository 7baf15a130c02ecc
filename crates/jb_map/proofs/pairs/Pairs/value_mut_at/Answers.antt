use Rattle.std.proofs.Common.{◌<◌, length, slice_get, refl, sym, ap, ◌∙◌, arith}
use Rattle.indexmap.specs.IndexMap.{set_value_at}
use Rattle.indexmap.proofs.ReorderLemmas.{parts}
use Rattle.std_collections.proofs.Zip.{slice_get_at, zip-set_value}
use Rattle.jb_map.proofs.pairs.Pairs.value_mut_at.Goals as goal

pub index_mut-requires : goal.index_mut-requires
index_mut-requires g c =
    let o = parts _ _ _ c.self.view_is c.self.invariant in
    omega (arith, o.values_length, c.self.inside.values.ok.0, c.requires)

pub returns : goal.returns
returns g c =
    let o = parts _ _ _ c.self.view_is c.self.invariant in
    let ks = c.self.inside.keys in
    let vs = c.self.inside.values.items in
    let i = c.args.index in
    let within : i < length vs = omega (arith, o.values_length, c.requires) in (
      (refl, λ w. zip-set_value ks vs i w ∙ ap (λ l. set_value_at l i w) c.self.view_is),
      record { writes_back = tt; value = ap (λ l. slice_get l i) (sym o.values) ∙ slice_get_at vs i _ within c.index_mut.ensures.value },
    )
